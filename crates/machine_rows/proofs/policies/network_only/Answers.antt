use Rattle.machine_rows.proofs.PolicyRuns.{network_only_hit, network_only_partial, network_only_miss}
use Rattle.machine_rows.proofs.policies.network_only.Goals as goal

pub returns-clause-hit : goal.returns-clause-hit
returns-clause-hit c = network_only_hit.follows

pub returns-clause-partial : goal.returns-clause-partial
returns-clause-partial c = network_only_partial.follows

pub returns-clause-miss : goal.returns-clause-miss
returns-clause-miss c = network_only_miss.follows
