use Rattle.machine_rows.proofs.QueryRuns.{cache_only_beside_network_only}
use Rattle.machine_rows.proofs.queries.cache_only_beside_network_only.Goals as goal

pub returns : goal.returns
returns c = cache_only_beside_network_only.follows
