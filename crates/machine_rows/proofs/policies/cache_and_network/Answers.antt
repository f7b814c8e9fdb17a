use Rattle.machine_rows.proofs.PolicyRuns.{cache_and_network_hit, cache_and_network_partial, cache_and_network_miss}
use Rattle.machine_rows.proofs.policies.cache_and_network.Goals as goal

pub returns-clause-hit : goal.returns-clause-hit
returns-clause-hit c = cache_and_network_hit.follows

pub returns-clause-partial : goal.returns-clause-partial
returns-clause-partial c = cache_and_network_partial.follows

pub returns-clause-miss : goal.returns-clause-miss
returns-clause-miss c = cache_and_network_miss.follows
