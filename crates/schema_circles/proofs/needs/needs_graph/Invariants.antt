use Rattle.std.proofs.Common.{◌≡◌, take}
use Rattle.schema_circles.specs.Needs.{needs_graph}
use Rattle.schema_circles.proofs.needs.needs_graph.Given as goal

abbrev pub invariant-types : goal.invariant-types
invariant-types l = l.graph ≡ needs_graph l.schema (take l.named-index l.types)
