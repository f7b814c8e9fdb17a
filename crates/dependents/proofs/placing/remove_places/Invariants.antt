use Rattle.std.proofs.Common.{◌≡◌, ◌&&◌, not}
use Rattle.std.specs.BTreeSet.{contains}
use Rattle.dependents.specs.declared.place.Place.{Place}
use Rattle.dependents.specs.Places.{place_cmp, is_placed}
use Rattle.dependents.proofs.placing.remove_places.Given as goal

abbrev pub invariant-loop-entity : goal.invariant-loop-entity
invariant-loop-entity l = (place : Place)
    → contains place_cmp l.places place
    ≡ (contains place_cmp l.initial.places place && not (is_placed l.sub l.turn l.yielded place))
