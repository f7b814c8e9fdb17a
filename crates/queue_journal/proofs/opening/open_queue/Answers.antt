use Rattle.std.proofs.Common.{◌∙◌}
use Rattle.queue_journal.proofs.opening.open_queue.Goals as goal

pub returns-else-length-le-EMPTY_END-clause-foreign : goal.returns-else-length-le-EMPTY_END-clause-foreign
returns-else-length-le-EMPTY_END-clause-foreign g c file told is =
    c.take_over.ensures.foreign file (c.len.ensures.reads ∙ c.sync.ensures.reads ∙ told) is
