use Rattle.std.proofs.Common.{◌≡◌, ◌++◌, take}
use Rattle.schema_circles.specs.Fillings.{fields_fill}
use Rattle.schema_circles.proofs.fillings.with_fields.Given as goal

abbrev pub invariant-fields : goal.invariant-fields
invariant-fields l = l.all ≡ l.fn.graph ++ fields_fill l.schema l.firsts (take l.field-index l.fields)
