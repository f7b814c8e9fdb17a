use Rattle.machine_model.proofs.SilentCommands.{silent_at_teardown, silent_until_dispatched, silent_runs}
use Rattle.machine_model.proofs.laws.silent_after_teardown.Goals as goal

pub returns-clause-teardown : goal.returns-clause-teardown
returns-clause-teardown c start = silent_at_teardown

pub returns-clause-command : goal.returns-clause-command
returns-clause-command c start = silent_until_dispatched

pub returns-clause-run : goal.returns-clause-run
returns-clause-run c start = silent_runs
