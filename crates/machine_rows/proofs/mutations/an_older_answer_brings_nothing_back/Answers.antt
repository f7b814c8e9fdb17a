use Rattle.machine_rows.proofs.MutationRuns.{an_older_answer_brings_nothing_back}
use Rattle.machine_rows.proofs.mutations.an_older_answer_brings_nothing_back.Goals as goal

pub returns : goal.returns
returns c = an_older_answer_brings_nothing_back.follows
