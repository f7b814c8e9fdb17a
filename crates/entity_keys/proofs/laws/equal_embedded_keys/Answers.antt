use Rattle.entity_keys.proofs.PathLaws.{embedded_same}
use Rattle.entity_keys.proofs.laws.equal_embedded_keys.Goals as goal

pub returns : goal.returns
returns c = embedded_same
