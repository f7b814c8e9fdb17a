use Rattle.std.proofs.Common.{◌≡◌, drop}
use Rattle.std.specs.List.{list_any}
use Rattle.check_model.specs.ValueRules.{is_unfit}
use Rattle.value_rules.proofs.unfit.has_unfit_argument.Given as goal

abbrev pub invariant-arguments : goal.invariant-arguments
invariant-arguments l =
    list_any (is_unfit l.schema l.defined) l.arguments ≡ list_any (is_unfit l.schema l.defined) (drop l.argument-index l.arguments)
