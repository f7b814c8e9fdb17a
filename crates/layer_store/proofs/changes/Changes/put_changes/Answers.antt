use Rattle.std.proofs.Common.{◌≡◌, ◌∙◌, ◌∷◌, refl, Option}
use Rattle.std.specs.Map.Iter.{deref_pair}
use Rattle.std.proofs.lemmas.Map.Iter.{rest_more}
use Rattle.layer_store.specs.declared.fields.Fields.{Fields}
use Rattle.layer_store.specs.Layers.{found_at}
use Rattle.layer_store.proofs.CellLaws.{part_turn, sorted_rest}
use Rattle.layer_store.proofs.changes.Changes.put_changes.Goals as goal

pub turn-preserved : goal.turn-preserved
turn-preserved c =
    let key = c.in-Some.entity.now in
    let part = c.in-Some.fields.now in
    let rest = c.next.new.self in
    let split : c.turn.entity-iterator ≡ (key, part) ∷ rest = rest_more deref_pair c.turn.entity-iterator rest c.next.result (c.in-Some.entity, c.in-Some.fields) c.in-Some.is c.next.ensures.steps in
    record {
      sorted = sorted_rest key part rest (rw split at c.turn.invariant.sorted);
      said = λ e f. part_turn (λ (o : Option Fields). found_at o f) c.turn.entity-iterator rest key e part _ _ refl split c.turn.invariant.sorted (c.in_ok-put_fields.ensures e f) ∙ c.turn.invariant.said e f;
    }
