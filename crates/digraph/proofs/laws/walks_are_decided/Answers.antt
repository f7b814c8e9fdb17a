use Rattle.digraph.proofs.WalkLaws.{decided}
use Rattle.digraph.proofs.laws.walks_are_decided.Goals as goal

pub returns : goal.returns
returns c = decided
