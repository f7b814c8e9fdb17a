use Rattle.std.proofs.Common.{◌≡◌}
use Rattle.std.specs.Slice.Iter.{iter_rest}
use Rattle.std.specs.Iterator.Adapters.{rev_source}
use Rattle.gate_machine.specs.Cells.{flattened}
use Rattle.exchange_line.proofs.history.find_cell.Given as goal

abbrev pub invariant-loop-writes : goal.invariant-loop-writes
invariant-loop-writes l = flattened (iter_rest (rev_source l.writes-iterator)) l.entity l.field ≡ flattened l.history l.entity l.field
