use Rattle.std.proofs.Common.{map, take}
use Rattle.schema_defaults.specs.Doubled.{names_in, field_doubled}
use Rattle.schema_defaults.specs.Seen.{Saw}
use Rattle.schema_defaults.proofs.doubled.field_names.Given as goal

abbrev pub invariant-fields : goal.invariant-fields
invariant-fields l = Saw l.seen (names_in (map field_doubled (take l.field-index l.fields)))
