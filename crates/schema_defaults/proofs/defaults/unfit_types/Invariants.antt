use Rattle.std.proofs.Common.{◌≡◌, take}
use Rattle.schema_defaults.specs.Defaults.{unfit_types}
use Rattle.schema_defaults.proofs.defaults.unfit_types.Given as goal

abbrev pub invariant-types : goal.invariant-types
invariant-types l = l.least ≡ unfit_types l.schema (take l.named-index l.types)
