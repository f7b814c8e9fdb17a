use Rattle.default_laws.proofs.RoundLaws.{defaults_are_one}
use Rattle.default_laws.proofs.laws.defaults_are_one.Goals as goal

pub returns : goal.returns
returns c = defaults_are_one c.ranks_fall.ensures c.walks_are_decided.ensures
