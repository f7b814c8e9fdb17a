use Rattle.std.proofs.Common.{◌≡◌, take}
use Rattle.gql_value.proofs.copying.+copy.Given as goal

abbrev pub invariant-copy_list-loop-item : goal.invariant-copy_list-loop-item
invariant-copy_list-loop-item l = l.copies ≡ take l.item-index l.item-items

abbrev pub invariant-copy_object-loop-name : goal.invariant-copy_object-loop-name
invariant-copy_object-loop-name l = l.copies ≡ take l.name-index l.name-items
