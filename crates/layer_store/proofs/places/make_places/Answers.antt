use Rattle.std.proofs.Common.{◌≡◌, ◌∙◌, ◌∷◌, ap, List, ℕ}
use Rattle.std.specs.Prelude.{is_some}
use Rattle.std.specs.BTreeMap.{get}
use Rattle.std.specs.Map.Iter.{deref_pair}
use Rattle.std.proofs.lemmas.Map.Iter.{rest_more}
use Rattle.text_types.specs.Texts.{text_cmp}
use Rattle.layer_store.proofs.PlaceLaws.{room_turn}
use Rattle.layer_store.proofs.places.make_places.Goals as goal

pub turn-preserved : goal.turn-preserved
turn-preserved c =
    let key = c.in-Some.field.now in
    let rest = c.next.new.self in
    let new = c.make_place.new.places in
    let split : c.turn.field-iterator ≡ (key, c.in-Some.cell.now) ∷ rest = rest_more deref_pair c.turn.field-iterator rest c.next.result (c.in-Some.field, c.in-Some.cell) c.in-Some.is c.next.ensures.steps in
    record {
      same = λ f. c.in_ok-make_place.ensures.same f ∙ c.turn.invariant.same f;
      kept = λ f s. c.in_ok-make_place.ensures.kept f (c.turn.invariant.kept f s);
      room = λ f s. room_turn c.turn.field-iterator rest key f c.in-Some.cell.now (is_some (get text_cmp new f)) (is_some (get text_cmp c.turn.places f)) split
          (λ same cell. ap (λ (q : List ℕ). is_some (get text_cmp new q)) same ∙ c.in_ok-make_place.ensures.room cell)
          (c.in_ok-make_place.ensures.kept f) (c.turn.invariant.room f s);
    }
