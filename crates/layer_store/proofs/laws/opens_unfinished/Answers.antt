use Rattle.layer_store.proofs.OpenLaws.{opened, unfinished, settled}
use Rattle.layer_store.proofs.laws.opens_unfinished.Goals as goal

pub returns-clause-opened : goal.returns-clause-opened
returns-clause-opened c = opened

pub returns-clause-unfinished : goal.returns-clause-unfinished
returns-clause-unfinished c = unfinished

pub returns-clause-settled : goal.returns-clause-settled
returns-clause-settled c = settled
