use Rattle.std.proofs.Common.{◌≡◌, ℕ, take}
use Rattle.std.specs.BTreeSet.{contains}
use Rattle.std.specs.List.{list_any}
use Rattle.std.specs.Ordering.{nat_cmp}
use Rattle.dependents.specs.Places.{wakes_place}
use Rattle.dependents.proofs.waking.woken_by.Given as goal

abbrev pub invariant-loop-write : goal.invariant-loop-write
invariant-loop-write l = (sub : ℕ)
    → contains nat_cmp l.woken sub
    ≡ list_any (λ write. list_any (wakes_place write sub) l.places.keys) (take l.write-index l.write-items)
