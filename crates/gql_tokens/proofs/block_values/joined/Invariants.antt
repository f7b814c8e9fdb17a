use Rattle.std.proofs.Common.{◌≡◌, ◌++◌, ◌∷◌, drop}
use Rattle.std.specs.Prelude.{flat_map}
use Rattle.std.specs.List.{join_with_byte}
use Rattle.gql_tokens.specs.Readings.{texts}
use Rattle.gql_tokens.proofs.block_values.joined.Given as goal

abbrev pub invariant-lines : goal.invariant-lines
invariant-lines l = l.text.items ++ flat_map (λ line. 10 ∷ line) (texts (drop l.line-index l.rest)) ≡ join_with_byte 10 (texts l.lines)
