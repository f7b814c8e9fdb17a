use Rattle.std.proofs.Common.{◌≡◌, take}
use Rattle.gql_value.proofs.equality.+same.Given as goal

abbrev pub invariant-same_list-loop-i : goal.invariant-same_list-loop-i
invariant-same_list-loop-i l = take l.i l.a ≡ take l.i l.b

abbrev pub invariant-same_object-loop-i : goal.invariant-same_object-loop-i
invariant-same_object-loop-i l = take l.i l.a ≡ take l.i l.b
