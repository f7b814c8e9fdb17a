use Rattle.entity_keys.proofs.KeyLaws.{keyed_same}
use Rattle.entity_keys.proofs.laws.equal_keyed_keys.Goals as goal

pub returns : goal.returns
returns c = keyed_same
