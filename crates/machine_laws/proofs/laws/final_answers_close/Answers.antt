use Rattle.machine_laws.proofs.AnswerLaws.{final_answers_close}
use Rattle.machine_laws.proofs.laws.final_answers_close.Goals as goal

pub returns : goal.returns
returns c start = final_answers_close
