use Rattle.machine_rows.proofs.MutationRuns.{blocked_while_guessed}
use Rattle.machine_rows.proofs.mutations.blocked_while_guessed.Goals as goal

pub returns : goal.returns
returns c = blocked_while_guessed.follows
