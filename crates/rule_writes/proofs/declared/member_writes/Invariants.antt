use Rattle.std.proofs.Common.{◌≡◌, ◌++◌, map, take}
use Rattle.cache_model.specs.declared.cell.Cell.TheVariants as cell
use Rattle.cache_model.specs.declared.write.Write.TheVariants as write
use Rattle.rule_writes.proofs.declared.member_writes.Given as goal

abbrev pub invariant-members : goal.invariant-members
invariant-members l = l.out ≡ l.fn.out ++ map (λ m. write.Set l.entity m.0.now (cell.Leaf m.1.now)) (take l.member-index l.members)
