use Rattle.partial_reader.proofs.Locality.{reads_locally}
use Rattle.partial_reader.proofs.laws.readings_are_local.Goals as goal

pub returns : goal.returns
returns c = reads_locally
