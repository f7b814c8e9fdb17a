use Rattle.std.proofs.Common.{◌≡◌, take}
use Rattle.gql_coercion.proofs.same.same_values.Given as goal

abbrev pub invariant-fields : goal.invariant-fields
invariant-fields l = take l.i l.a ≡ take l.i l.b
