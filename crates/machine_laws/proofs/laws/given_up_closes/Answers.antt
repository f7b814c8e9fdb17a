use Rattle.machine_laws.proofs.ClosingLaws.{teardowns_close, full_queues_close}
use Rattle.machine_laws.proofs.laws.given_up_closes.Goals as goal

pub returns-clause-teardown : goal.returns-clause-teardown
returns-clause-teardown c start = teardowns_close

pub returns-clause-queue : goal.returns-clause-queue
returns-clause-queue c start = full_queues_close
