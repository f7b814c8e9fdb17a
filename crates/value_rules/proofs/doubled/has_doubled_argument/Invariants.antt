use Rattle.std.proofs.Common.{◌≡◌, drop}
use Rattle.std.specs.List.{list_any}
use Rattle.gql_model.specs.declared.selection.Argument.{Argument}
use Rattle.schema_defaults.specs.Doubled.{is_doubled}
use Rattle.value_rules.proofs.doubled.has_doubled_argument.Given as goal

abbrev pub invariant-arguments : goal.invariant-arguments
invariant-arguments l =
    list_any (λ (a : Argument). is_doubled a.value) l.arguments
    ≡ list_any (λ (a : Argument). is_doubled a.value) (drop l.argument-index l.arguments)
