use Rattle.std.proofs.Common.{◌≡◌, ◌++◌, length}
use Rattle.std.specs.Prelude.{flat_map}
use Rattle.gql_value.specs.Fronts.{IsFront}
use Rattle.gql_value.specs.Text.{escaped_byte}
use Rattle.gql_value.proofs.quoting.append_escaped.Given as goal

abbrev pub invariant-runs : goal.invariant-runs
invariant-runs l =
    IsFront l.fn.out l.out
    × (l.out ++ flat_map escaped_byte l.rest ≡ l.fn.out ++ flat_map escaped_byte l.fn.bytes)

abbrev pub decreases-runs : goal.decreases-runs
decreases-runs l = length l.rest
