use Rattle.std.proofs.Common.{◌≡◌, drop}
use Rattle.std.specs.List.{list_any}
use Rattle.gql_model.specs.declared.executable.Operation.{Operation}
use Rattle.check_model.specs.Executables.{operation_is}
use Rattle.check_model.specs.Fields.{operation_fields}
use Rattle.check_model.specs.MergeRules.{some_conflict, breaks_field_merging}
use Rattle.merge_rules.proofs.merging.breaks_field_merging.Given as goal

abbrev pub invariant-definitions : goal.invariant-definitions
invariant-definitions l =
    breaks_field_merging l.scope.schema.now l.scope.document.now
    ≡ list_any (operation_is (λ (o : Operation). some_conflict l.scope.schema.now (operation_fields l.scope.schema.now l.scope.document.now o)))
    (drop l.definition-index l.definition-items)
