use Rattle.machine_laws.specs.Endings.{weight_of}
use Rattle.machine_laws.proofs.EndingLaws.{every_run_ends}
use Rattle.machine_laws.proofs.WeightLaws.{weight_of-weighs}
use Rattle.machine_laws.proofs.laws.every_run_ends.Goals as goal

pub returns : goal.returns
returns c start = λ meaning command state asks. every_run_ends weight_of meaning asks weight_of-weighs command state
