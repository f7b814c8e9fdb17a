use Rattle.machine_model.proofs.Readings.{readings_stay_current, readings_stay_current_in_runs}
use Rattle.machine_model.proofs.laws.readings_stay_current.Goals as goal

pub returns-clause-command : goal.returns-clause-command
returns-clause-command c start = readings_stay_current

pub returns-clause-run : goal.returns-clause-run
returns-clause-run c start = readings_stay_current_in_runs
