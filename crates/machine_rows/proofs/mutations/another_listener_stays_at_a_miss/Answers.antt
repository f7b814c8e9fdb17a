use Rattle.machine_rows.proofs.MutationRuns.{another_listener_stays_at_a_miss}
use Rattle.machine_rows.proofs.mutations.another_listener_stays_at_a_miss.Goals as goal

pub returns : goal.returns
returns c = another_listener_stays_at_a_miss.follows
