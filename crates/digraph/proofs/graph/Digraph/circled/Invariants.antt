use Rattle.std.proofs.Common.{◌≡◌, map}
use Rattle.std.specs.List.{range_with_len}
use Rattle.digraph.specs.Walks.{reaches}
use Rattle.digraph.proofs.graph.Digraph.circled.Given as goal

abbrev pub invariant-nodes : goal.invariant-nodes
invariant-nodes l = l.marks.items ≡ map (λ a. reaches l.self a a) (range_with_len 0 l.node)
