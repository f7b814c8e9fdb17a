use Rattle.std.proofs.Common.{◌∙◌}
use Rattle.std.specs.Map.Iter.{deref_pair}
use Rattle.std.proofs.lemmas.Map.Iter.{rest_more}
use Rattle.layer_store.proofs.CellLaws.{cell_turn}
use Rattle.layer_store.proofs.fields.Fields.put_cells.Goals as goal

pub turn-preserved : goal.turn-preserved
turn-preserved c f =
    cell_turn c.turn.field-iterator c.next.new.self c.in-Some.field.now f c.in-Some.cell.now _ _
    (rest_more deref_pair c.turn.field-iterator c.next.new.self c.next.result (c.in-Some.field, c.in-Some.cell) c.in-Some.is c.next.ensures.steps) (c.in_ok-put_copy.ensures f)
    ∙ c.turn.invariant f
