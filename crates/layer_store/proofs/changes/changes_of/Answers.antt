use Rattle.std.proofs.Common.{◌∙◌}
use Rattle.layer_store.proofs.CellLaws.{write_turn}
use Rattle.layer_store.proofs.changes.changes_of.Goals as goal

pub turn-preserved : goal.turn-preserved
turn-preserved c e f = write_turn c.pop.new.self.items c.turn.left.items c.in-Some.write e f _ _ c.in-Some.ensures.items (c.in_ok-put_write.ensures e f) ∙ c.turn.invariant e f
