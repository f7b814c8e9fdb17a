use Rattle.std.proofs.Common.{◌≡◌, take}
use Rattle.schema_circles.specs.Needs.{type_lines}
use Rattle.schema_circles.proofs.needs.type_lines.Given as goal

abbrev pub invariant-types : goal.invariant-types
invariant-types l = l.lines ≡ type_lines (take l.named-index l.types)
