use Rattle.std.proofs.Common.{◌≡◌, false}
use Rattle.std.specs.List.{range_with_len, list_any}
use Rattle.digraph.specs.Walks.{reaches}
use Rattle.digraph.proofs.graph.Digraph.has_circle.Given as goal

abbrev pub invariant-nodes : goal.invariant-nodes
invariant-nodes l = list_any (λ a. reaches l.self a a) (range_with_len 0 l.node) ≡ false
