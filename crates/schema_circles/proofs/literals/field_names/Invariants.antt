use Rattle.std.proofs.Common.{map, take}
use Rattle.schema_defaults.specs.Seen.{Saw}
use Rattle.schema_circles.specs.Fillings.{given_names, object_field_fills}
use Rattle.schema_circles.proofs.literals.field_names.Given as goal

abbrev pub invariant-fields : goal.invariant-fields
invariant-fields l = Saw l.seen (given_names (map (object_field_fills l.schema l.firsts) (take l.field-index l.fields)))
