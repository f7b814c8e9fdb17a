use Rattle.machine_rows.proofs.PolicyRuns.{cache_first_hit, cache_first_partial, cache_first_miss}
use Rattle.machine_rows.proofs.policies.cache_first.Goals as goal

pub returns-clause-hit : goal.returns-clause-hit
returns-clause-hit c = cache_first_hit.follows

pub returns-clause-partial : goal.returns-clause-partial
returns-clause-partial c = cache_first_partial.follows

pub returns-clause-miss : goal.returns-clause-miss
returns-clause-miss c = cache_first_miss.follows
