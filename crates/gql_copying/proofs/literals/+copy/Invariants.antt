use Rattle.std.proofs.Common.{◌≡◌, take}
use Rattle.gql_copying.proofs.literals.+copy.Given as goal

abbrev pub invariant-copy_list-items : goal.invariant-copy_list-items
invariant-copy_list-items l = l.copies ≡ take l.item-index l.item-items

abbrev pub invariant-copy_fields-fields : goal.invariant-copy_fields-fields
invariant-copy_fields-fields l = l.copies ≡ take l.field-index l.field-items
