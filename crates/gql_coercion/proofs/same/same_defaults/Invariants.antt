use Rattle.std.proofs.Common.{◌≡◌, take}
use Rattle.gql_coercion.proofs.same.same_defaults.Given as goal

abbrev pub invariant-types : goal.invariant-types
invariant-types l = take l.i l.a ≡ take l.i l.b
