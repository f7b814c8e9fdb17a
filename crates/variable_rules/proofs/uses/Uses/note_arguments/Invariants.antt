use Rattle.std.proofs.Common.{◌≡◌, drop}
use Rattle.std.specs.List.{fold, flat_map}
use Rattle.check_model.specs.Usages.{argument_usages}
use Rattle.variable_rules.specs.Uses.{noted}
use Rattle.variable_rules.proofs.uses.Uses.note_arguments.Given as goal

abbrev pub invariant-arguments : goal.invariant-arguments
invariant-arguments l =
    fold noted l.initial.self (flat_map (argument_usages l.schema l.defined) l.arguments)
    ≡ fold noted l.self (flat_map (argument_usages l.schema l.defined) (drop l.argument-index l.arguments))
