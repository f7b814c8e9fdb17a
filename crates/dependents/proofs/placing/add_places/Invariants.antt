use Rattle.std.proofs.Common.{◌≡◌, ◌||◌, take}
use Rattle.std.specs.BTreeSet.{contains}
use Rattle.dependents.specs.declared.place.Place.{Place}
use Rattle.dependents.specs.Places.{place_cmp, is_placed}
use Rattle.dependents.proofs.placing.add_places.Given as goal

abbrev pub invariant-loop-cell : goal.invariant-loop-cell
invariant-loop-cell l = (place : Place)
    → contains place_cmp l.places place
    ≡ (contains place_cmp l.initial.places place || is_placed l.sub l.turn (take l.cell-index l.cell-items) place)
