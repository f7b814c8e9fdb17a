use Rattle.std.proofs.Common.{◌≡◌, take}
use Rattle.std.specs.Prelude.{reverse}
use Rattle.gql_value.specs.Json.{dotted}
use Rattle.gql_value.proofs.refusal.dotted_back.Given as goal

abbrev pub invariant-loop-before : goal.invariant-loop-before
invariant-loop-before l = l.path ≡ dotted (take l.before (reverse l.steps))
