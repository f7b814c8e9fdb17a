use Rattle.std.proofs.Common.{◌≡◌, ◌∙◌, ◌∷◌, ap, List, ℕ}
use Rattle.std.specs.Map.Iter.{deref_pair}
use Rattle.std.proofs.lemmas.Map.Iter.{rest_more}
use Rattle.layer_store.specs.Bases.{has_place}
use Rattle.layer_store.proofs.PlaceLaws.{part_room_turn}
use Rattle.layer_store.proofs.base.Base.make_room.Goals as goal

pub turn-preserved : goal.turn-preserved
turn-preserved c =
    let key = c.in-Some.entity.now in
    let rest = c.next.new.self in
    let old = c.turn.self in
    let new = c.make_places.new.self in
    let split : c.turn.entity-iterator ≡ (key, c.in-Some.fields.now) ∷ rest = rest_more deref_pair c.turn.entity-iterator rest c.next.result (c.in-Some.entity, c.in-Some.fields) c.in-Some.is c.next.ensures.steps in
    record {
      same = λ e f. c.in_ok-make_places.ensures.same e f ∙ c.in_ok-make_entity.ensures.same e f ∙ c.turn.invariant.same e f;
      room = λ e f s. part_room_turn c.turn.entity-iterator rest key e f c.in-Some.fields.now (has_place new e f) (has_place old e f) split
          (λ same cell. ap (λ (q : List ℕ). has_place new q f) same ∙ c.in_ok-make_places.ensures.room f cell)
          (λ had. c.in_ok-make_places.ensures.kept e f (c.in_ok-make_entity.ensures.kept e f had)) (c.turn.invariant.room e f s);
    }
