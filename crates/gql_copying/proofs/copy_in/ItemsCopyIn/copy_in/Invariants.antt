use Rattle.std.proofs.Common.{◌≡◌, take}
use Rattle.gql_copying.proofs.copy_in.ItemsCopyIn.copy_in.Given as goal

abbrev pub invariant-items : goal.invariant-items
invariant-items g l = l.copies ≡ take l.item-index l.item-items
