use Rattle.std.proofs.Common.{map, take}
use Rattle.schema_defaults.specs.Fits.{given_names, object_field_fits}
use Rattle.schema_defaults.specs.Seen.{Saw}
use Rattle.schema_defaults.proofs.fits.field_names.Given as goal

abbrev pub invariant-fields : goal.invariant-fields
invariant-fields l = Saw l.seen (given_names (map (object_field_fits l.schema) (take l.field-index l.fields)))
