use Rattle.machine_model.proofs.ClosingAnswers.{answers_close}
use Rattle.machine_model.proofs.laws.answers_close.Goals as goal

pub returns : goal.returns
returns c start = answers_close
