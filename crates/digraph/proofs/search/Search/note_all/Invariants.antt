use Rattle.std.proofs.Common.{◌≡◌, take}
use Rattle.std.specs.List.{fold}
use Rattle.digraph.specs.Searches.{noted}
use Rattle.digraph.proofs.search.Search.note_all.Given as goal

abbrev pub invariant-nodes : goal.invariant-nodes
invariant-nodes l = l.self ≡ (fold (noted l.fn.self.1) l.fn.self.0 (take l.node-index l.nodes), l.fn.self.1)
