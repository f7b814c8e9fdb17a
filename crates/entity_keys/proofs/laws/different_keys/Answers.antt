use Rattle.entity_keys.proofs.KeyLaws.{keyed_no_root, keyed_not_embedded, embedded_no_root}
use Rattle.entity_keys.proofs.laws.different_keys.Goals as goal

pub returns-clause-keyed_or_root : goal.returns-clause-keyed_or_root
returns-clause-keyed_or_root c = keyed_no_root

pub returns-clause-keyed_or_embedded : goal.returns-clause-keyed_or_embedded
returns-clause-keyed_or_embedded c = keyed_not_embedded

pub returns-clause-embedded_or_root : goal.returns-clause-embedded_or_root
returns-clause-embedded_or_root c = embedded_no_root
