use Rattle.digraph.specs.Clear.{IsClear}
use Rattle.digraph.proofs.graph.Digraph.clear.Given as goal

abbrev pub invariant-order : goal.invariant-order
invariant-order l = IsClear l.self l.marks.items
