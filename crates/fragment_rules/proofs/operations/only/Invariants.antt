use Rattle.std.proofs.Common.{◌≡◌, ◌++◌, drop}
use Rattle.std.specs.Option.{option_copied, option_to_list}
use Rattle.std.specs.List.{flat_map}
use Rattle.check_model.specs.Executables.{only, operation_in}
use Rattle.fragment_rules.proofs.operations.only.Given as goal

abbrev pub invariant-definitions : goal.invariant-definitions
invariant-definitions l =
    only (flat_map operation_in l.definitions)
    ≡ only (option_to_list (option_copied l.found) ++ flat_map operation_in (drop l.definition-index l.definitions))
