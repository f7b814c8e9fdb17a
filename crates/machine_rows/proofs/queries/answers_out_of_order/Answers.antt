use Rattle.machine_rows.proofs.QueryRuns.{answers_out_of_order}
use Rattle.machine_rows.proofs.queries.answers_out_of_order.Goals as goal

pub returns : goal.returns
returns c = answers_out_of_order.follows
