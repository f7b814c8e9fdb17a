use Rattle.machine_rows.proofs.QueryRuns.{teardown_in_flight}
use Rattle.machine_rows.proofs.queries.teardown_in_flight.Goals as goal

pub returns : goal.returns
returns c = teardown_in_flight.follows
