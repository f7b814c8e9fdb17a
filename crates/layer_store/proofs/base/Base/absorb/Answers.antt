use Rattle.std.proofs.Common.{◌≡◌, ◌∙◌, ap, subst, List, ℕ, unwrap_or, Option}
use Rattle.std.specs.Prelude.{is_some}
use Rattle.std.specs.BTreeMap.{get, is_at}
use Rattle.text_types.specs.Texts.{text_cmp}
use Rattle.layer_store.specs.declared.fields.Fields.{Fields}
use Rattle.layer_store.specs.Layers.{found_in}
use Rattle.layer_store.specs.Bases.{Places, base_at, has_place, place_in, sets_in, cell_of}
use Rattle.layer_store.proofs.PlaceLaws.{entity_turn, part_room_left}
use Rattle.layer_store.proofs.base.Base.absorb.Goals as goal

pub absorb_entity-requires : goal.absorb_entity-requires
absorb_entity-requires c f cell = c.turn.invariant.room c.in-Some.entity f (ap (λ (o : Option Fields). sets_in o f) c.in-Some.ensures.value ∙ cell)

pub turn-preserved : goal.turn-preserved
turn-preserved c =
    let key = c.in-Some.entity in
    let fields = c.in-Some.fields in
    let old = c.turn.self in
    let mid = c.absorb_entity.new.self in
    let new = c.prune.new.self in
    record {
      said = λ e f.
          entity_turn key e f fields c.pop_first.new.self c.turn.left (base_at new e f) (base_at old e f) c.in-Some.ensures.value (c.in-Some.ensures.updates.0 e)
          (λ same. c.prune.ensures.same e f ∙ subst (λ (q : List ℕ). base_at mid q f ≡ unwrap_or (found_in fields f) (base_at old q f)) same (c.absorb_entity.ensures.here f))
          (λ apart. c.prune.ensures.same e f ∙ ap (λ (o : Option Places). cell_of (place_in o f)) (c.absorb_entity.ensures.others e apart))
          ∙ c.turn.invariant.said e f;
      room = λ e f. part_room_left (is_at (text_cmp key) e) f (get text_cmp c.pop_first.new.self e) (get text_cmp c.turn.left e) (has_place new e f) (has_place old e f) (c.in-Some.ensures.updates.0 e)
          (λ apart had. c.prune.ensures.kept e f (ap (λ (o : Option Places). is_some (place_in o f)) (c.absorb_entity.ensures.others e apart) ∙ had)) (c.turn.invariant.room e f);
    }
