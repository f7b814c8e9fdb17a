use Rattle.std.proofs.Common.{◌≡◌, ◌∙◌, ◌∷◌, refl, Option}
use Rattle.std.specs.Map.Iter.{deref_pair}
use Rattle.std.proofs.lemmas.Map.Iter.{rest_more}
use Rattle.layer_store.specs.Bases.{Places, place_in}
use Rattle.layer_store.proofs.CellLaws.{part_turn, sorted_rest}
use Rattle.layer_store.proofs.changes.Changes.put_base.Goals as goal

pub turn-preserved : goal.turn-preserved
turn-preserved c =
    let key = c.in-Some.entity.now in
    let places = c.in-Some.places.now in
    let rest = c.next.new.self in
    let split : c.turn.entity-iterator ≡ (key, places) ∷ rest = rest_more deref_pair c.turn.entity-iterator rest c.next.result (c.in-Some.entity, c.in-Some.places) c.in-Some.is c.next.ensures.steps in
    record {
      sorted = sorted_rest key places rest (rw split at c.turn.invariant.sorted);
      said = λ e f. part_turn (λ (o : Option Places). place_in o f) c.turn.entity-iterator rest key e places _ _ refl split c.turn.invariant.sorted (c.in_ok-put_places.ensures e f) ∙ c.turn.invariant.said e f;
    }
