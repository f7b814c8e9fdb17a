use Rattle.std.proofs.Common.{Err, ap}
use Rattle.queue_journal.proofs.journal.Journal.open.Goals as goal

pub returns-in-Err-clause-foreign : goal.returns-in-Err-clause-foreign
returns-in-Err-clause-foreign g c file told is = c.in-Err.ensures.foreign file told (ap (λ e. Err e) is)
