use Rattle.std.proofs.Common.{◌≡◌, take}
use Rattle.schema_defaults.specs.Defaults.{unfit_directives}
use Rattle.schema_defaults.proofs.defaults.unfit_directives.Given as goal

abbrev pub invariant-directives : goal.invariant-directives
invariant-directives l = l.least ≡ unfit_directives l.schema (take l.directive-index l.directives)
