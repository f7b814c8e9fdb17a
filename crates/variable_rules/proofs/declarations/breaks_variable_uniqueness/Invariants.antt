use Rattle.std.proofs.Common.{◌≡◌, drop}
use Rattle.std.specs.List.{list_any}
use Rattle.gql_model.specs.declared.executable.Operation.{Operation}
use Rattle.check_model.specs.Executables.{operation_is}
use Rattle.check_model.specs.Repeated.{stands_twice}
use Rattle.check_model.specs.VariableRules.{variable_names, breaks_variable_uniqueness}
use Rattle.variable_rules.proofs.declarations.breaks_variable_uniqueness.Given as goal

abbrev pub invariant-definitions : goal.invariant-definitions
invariant-definitions l =
    breaks_variable_uniqueness l.document
    ≡ list_any (operation_is (λ (o : Operation). stands_twice (variable_names o))) (drop l.definition-index l.definition-items)
