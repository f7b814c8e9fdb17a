use Rattle.std.proofs.Common.{◌≡◌, ◌||◌, ℕ, map}
use Rattle.std.specs.BTreeSet.{contains}
use Rattle.std.specs.List.{list_any}
use Rattle.std.specs.Map.Iter.{deref}
use Rattle.std.specs.Ordering.{nat_cmp}
use Rattle.dependents.specs.Places.{wakes_place}
use Rattle.dependents.proofs.waking.wake.Given as goal

abbrev pub invariant-loop-place : goal.invariant-loop-place
invariant-loop-place l = (sub : ℕ)
    → contains nat_cmp l.woken sub
    ≡ (contains nat_cmp l.initial.woken sub || list_any (wakes_place l.write sub) (map deref l.yielded))
