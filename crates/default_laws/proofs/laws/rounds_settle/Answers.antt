use Rattle.default_laws.proofs.RoundLaws.{rounds_settle}
use Rattle.default_laws.proofs.laws.rounds_settle.Goals as goal

pub returns : goal.returns
returns c = rounds_settle c.ranks_fall.ensures c.walks_are_decided.ensures
