use Rattle.std.proofs.Common.{◌∙◌, ap}
use Rattle.std.specs.BTreeMap.{get, is_at}
use Rattle.text_types.specs.Texts.{text_cmp}
use Rattle.layer_store.specs.Bases.{is_cell}
use Rattle.layer_store.proofs.PlaceLaws.{pop_turn, room_left}
use Rattle.layer_store.proofs.places.write_cells.Goals as goal

pub write_cell-requires : goal.write_cell-requires
write_cell-requires c cell = c.turn.invariant.room c.in-Some.field (ap is_cell c.in-Some.ensures.value ∙ cell)

pub turn-preserved : goal.turn-preserved
turn-preserved c = record {
  said = λ f. pop_turn c.in-Some.field f c.in-Some.cell c.pop_first.new.self c.turn.left _ _ c.in-Some.ensures.value (c.in-Some.ensures.updates.0 f) (c.write_cell.ensures.here f) ∙ c.turn.invariant.said f;
  room = λ f. room_left (is_at (text_cmp c.in-Some.field) f) (get text_cmp c.pop_first.new.self f) (get text_cmp c.turn.left f) (get text_cmp c.write_cell.new.places f) (get text_cmp c.turn.places f) (c.in-Some.ensures.updates.0 f) (c.write_cell.ensures.others f) (c.turn.invariant.room f);
}
