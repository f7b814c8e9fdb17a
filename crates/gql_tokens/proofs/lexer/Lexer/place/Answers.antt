use Rattle.std.proofs.Common.{ap, sym, ◌∙◌}
use Rattle.gql_tokens.specs.Cursors.{first_place}
use Rattle.gql_tokens.proofs.HeadLaws.{head_token}
use Rattle.gql_tokens.proofs.lexer.Lexer.place.Goals as goal

pub returns : goal.returns
returns c = sym (ap first_place (sym c.self.view_is ∙ head_token c.self.inside.head c.self.invariant))
