use Rattle.machine_rows.proofs.RowRuns.{both_queued, queued_and_offered_again}
use Rattle.machine_rows.proofs.rows.queued_and_offered_again.Goals as goal

pub returns-clause-queued : goal.returns-clause-queued
returns-clause-queued c = both_queued.follows

pub returns-clause-offered : goal.returns-clause-offered
returns-clause-offered c = queued_and_offered_again
