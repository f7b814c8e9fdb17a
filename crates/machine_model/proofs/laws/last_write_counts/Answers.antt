use Rattle.machine_model.proofs.MapLaws.{last_write_counts}
use Rattle.machine_model.proofs.laws.last_write_counts.Goals as goal

pub returns : goal.returns
returns c = last_write_counts
