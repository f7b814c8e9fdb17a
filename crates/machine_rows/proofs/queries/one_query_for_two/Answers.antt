use Rattle.machine_rows.proofs.QueryRuns.{one_query_for_two}
use Rattle.machine_rows.proofs.queries.one_query_for_two.Goals as goal

pub returns : goal.returns
returns c = one_query_for_two.follows
