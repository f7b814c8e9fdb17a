use Rattle.std.proofs.Common.{◌≡◌, take}
use Rattle.schema_defaults.specs.Defaults.{unfit_fields}
use Rattle.schema_defaults.proofs.defaults.unfit_fields.Given as goal

abbrev pub invariant-fields : goal.invariant-fields
invariant-fields l = l.least ≡ unfit_fields l.schema (take l.field-index l.fields)
