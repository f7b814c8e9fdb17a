use Rattle.std.proofs.Common.{◌≡◌, ◌-◌, length}
use Rattle.digraph.proofs.SearchLaws.{IsUnderWay}
use Rattle.digraph.proofs.graph.Digraph.reached.Given as goal

abbrev pub invariant-turn : goal.invariant-turn
invariant-turn l = IsUnderWay l.self l.start l.search.0 l.at × (l.search.1 ≡ length l.self)

abbrev pub decreases-turn : goal.decreases-turn
decreases-turn l = length l.self - l.at
