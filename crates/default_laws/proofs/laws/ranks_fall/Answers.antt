use Rattle.default_laws.proofs.RankLaws.{ranks_fall}
use Rattle.default_laws.proofs.laws.ranks_fall.Goals as goal

pub returns : goal.returns
returns c = ranks_fall c.walks_are_decided.ensures
