use Rattle.std.proofs.Common.{◌≡◌, take}
use Rattle.schema_defaults.specs.Defaults.{unfit_inputs}
use Rattle.schema_defaults.proofs.defaults.unfit_inputs.Given as goal

abbrev pub invariant-inputs : goal.invariant-inputs
invariant-inputs l = l.least ≡ unfit_inputs l.schema (take l.input-index l.inputs)
