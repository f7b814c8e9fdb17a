use Rattle.machine_rows.proofs.MutationRuns.{a_guess_and_its_answer}
use Rattle.machine_rows.proofs.mutations.a_guess_and_its_answer.Goals as goal

pub returns : goal.returns
returns c = a_guess_and_its_answer.follows
