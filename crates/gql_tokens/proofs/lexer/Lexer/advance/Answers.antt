use Rattle.std.proofs.Common.{ap, sym, ◌∙◌}
use Rattle.gql_tokens.specs.Heads.{is_last}
use Rattle.gql_tokens.specs.Cursors.{first_kind}
use Rattle.gql_tokens.proofs.HeadLaws.{head_token}
use Rattle.gql_tokens.proofs.lexer.Lexer.advance.Goals as goal

pub next_head-self-inside-requires-clause-goes_on : goal.next_head-self-inside-requires-clause-goes_on
next_head-self-inside-requires-clause-goes_on c =
    ap is_last (sym (ap first_kind (sym c.self.view_is ∙ head_token c.self.inside.head c.self.invariant))) ∙ c.requires
