use Rattle.std.proofs.Common.{◌≡◌, take}
use Rattle.std.specs.Prelude.{flat_map}
use Rattle.gql_value.specs.Text.{escaped_byte}
use Rattle.gql_value.proofs.quoting.plain_len.Given as goal

abbrev pub invariant-loop-at : goal.invariant-loop-at
invariant-loop-at l = flat_map escaped_byte (take l.at l.bytes) ≡ take l.at l.bytes
