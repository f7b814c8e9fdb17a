use Rattle.std.proofs.Common.{◌≡◌, map, drop}
use Rattle.gql_printing.specs.Tokens.{joined}
use Rattle.gql_printing.specs.Progress.{written}
use Rattle.gql_printing.specs.Literals.{literal_tokens, object_field_tokens}
use Rattle.gql_printing.proofs.literals.+literals.Given as goal

abbrev pub invariant-print_values-values : goal.invariant-print_values-values
invariant-print_values-values l =
    written l.initial.printer (joined (map literal_tokens l.value-items))
    ≡ written l.printer (joined (map literal_tokens (drop l.value-index l.value-items)))

abbrev pub invariant-print_object_fields-fields : goal.invariant-print_object_fields-fields
invariant-print_object_fields-fields l =
    written l.initial.printer (joined (map object_field_tokens l.field-items))
    ≡ written l.printer (joined (map object_field_tokens (drop l.field-index l.field-items)))
