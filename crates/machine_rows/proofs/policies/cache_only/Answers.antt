use Rattle.machine_rows.proofs.PolicyRuns.{cache_only_hit, cache_only_partial, cache_only_miss}
use Rattle.machine_rows.proofs.policies.cache_only.Goals as goal

pub returns-clause-hit : goal.returns-clause-hit
returns-clause-hit c = cache_only_hit.follows

pub returns-clause-partial : goal.returns-clause-partial
returns-clause-partial c = cache_only_partial.follows

pub returns-clause-miss : goal.returns-clause-miss
returns-clause-miss c = cache_only_miss.follows
