use Rattle.std.proofs.Common.{◌≡◌, take}
use Rattle.schema_circles.specs.Fillings.{filling_graph}
use Rattle.schema_circles.proofs.fillings.filling_graph.Given as goal

abbrev pub invariant-types : goal.invariant-types
invariant-types l = l.graph ≡ filling_graph l.schema l.firsts (take l.named-index l.types)
