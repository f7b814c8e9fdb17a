use Rattle.std.proofs.Common.{sym, ◌∙◌}
use Rattle.std.specs.Slice.Iter.{iter_rest}
use Rattle.std.specs.Iterator.Adapters.{rev_source}
use Rattle.exchange_line.proofs.HistoryLaws.{newest_result}
use Rattle.exchange_line.proofs.history.find_cell.Goals as goal

pub returns-in-Some-find_write : goal.returns-in-Some-find_write
returns-in-Some-find_write c =
    let newest = newest_result (iter_rest (rev_source c.next.new.self)) c.as_slice.result.now c.args.entity.now c.args.field.now in
    sym (rw (← c.in-Some-find_write.ensures) at newest) ∙ rw (c.as_slice.ensures, ← c.in-Some.ensures.steps) c.loop-writes.invariant
