use Rattle.std.proofs.Common.{◌≡◌, take}
use Rattle.schema_circles.specs.Needs.{needed_by}
use Rattle.schema_circles.proofs.needs.needed_by.Given as goal

abbrev pub invariant-fields : goal.invariant-fields
invariant-fields l = l.nodes ≡ needed_by l.schema (take l.field-index l.fields)
