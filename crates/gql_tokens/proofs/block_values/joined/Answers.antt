use Rattle.std.proofs.Common.{◌++◌, ◌∷◌, ℕ, List, ap, sym, ◌∙◌}
use Rattle.std.specs.Prelude.{flat_map}
use Rattle.std.specs.List.{join_with_byte}
use Rattle.std.specs.Borrow.{Bor}
use Rattle.gql_tokens.specs.Readings.{texts}
use Rattle.gql_tokens.proofs.BlockLaws.{join-flat}
use Rattle.gql_tokens.proofs.block_values.joined.Goals as goal

pub lines-init : goal.lines-init
lines-init c =
    let first = c.in-Some.first.now in
    ap (λ (bytes : List ℕ). bytes ++ flat_map (λ line. 10 ∷ line) (texts c.in-Some.rest.now)) (c.in_ok-extend_from_slice.ensures.items ∙ ap (λ (bytes : List ℕ). bytes ++ first.now) c.new-text.ensures.items)
    ∙ sym (join-flat first.now (texts c.in-Some.rest.now))
    ∙ ap (λ (lines : List (Bor (List ℕ))). join_with_byte 10 (texts lines)) (sym c.in-Some.ensures.cases.0)
