use Rattle.machine_rows.proofs.MutationRuns.{answers_in_order_of_sending}
use Rattle.machine_rows.proofs.mutations.answers_in_order_of_sending.Goals as goal

pub returns : goal.returns
returns c = answers_in_order_of_sending.follows
