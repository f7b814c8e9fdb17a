use Rattle.machine_model.proofs.RunLaws.{one_run}
use Rattle.machine_model.proofs.laws.one_run.Goals as goal

pub returns : goal.returns
returns c start = one_run
