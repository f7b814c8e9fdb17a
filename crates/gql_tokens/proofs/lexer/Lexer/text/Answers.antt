use Rattle.std.proofs.Common.{ap, sym, ◌∙◌}
use Rattle.gql_tokens.specs.Cursors.{first_kind, first_text}
use Rattle.gql_tokens.proofs.HeadLaws.{head_token}
use Rattle.gql_tokens.proofs.FormLaws.{head_formed}
use Rattle.gql_tokens.proofs.lexer.Lexer.text.Goals as goal

pub returns-clause-value : goal.returns-clause-value
returns-clause-value c = c.split_at.ensures.front ∙ sym (ap first_text (sym c.self.view_is ∙ head_token c.self.inside.head c.self.invariant))

pub returns-clause-name : goal.returns-clause-name
returns-clause-name c =
    let head = c.self.inside.head in
    let same = ap first_kind (sym c.self.view_is ∙ head_token head c.self.invariant) in
    λ k. rw c.split_at.ensures.front ((head_formed head.rest.now head.kind head.len c.self.invariant.is).name (sym same ∙ k))

pub returns-clause-integer : goal.returns-clause-integer
returns-clause-integer c =
    let head = c.self.inside.head in
    let same = ap first_kind (sym c.self.view_is ∙ head_token head c.self.invariant) in
    λ k. rw c.split_at.ensures.front ((head_formed head.rest.now head.kind head.len c.self.invariant.is).integer (sym same ∙ k))
