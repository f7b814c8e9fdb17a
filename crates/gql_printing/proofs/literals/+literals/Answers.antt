use Rattle.std.proofs.Common.{◌+◌, List, map, drop, ap}
use Rattle.gql_model.specs.declared.literal.Literal.{Literal}
use Rattle.gql_model.specs.declared.literal.ObjectField.{ObjectField}
use Rattle.gql_printing.specs.Tokens.{joined}
use Rattle.gql_printing.specs.Literals.{literal_tokens, object_field_tokens}
use Rattle.gql_printing.proofs.Writing.{drop_turn, turn}
use Rattle.gql_printing.proofs.literals.+literals.Goals as goal

pub print_values-values-preserved : goal.print_values-values-preserved
print_values-values-preserved t c =
    let items = c.as_slice-value-items.result.now in
    let i = c.values.value-index in
    let item = c.value-item.result in
    turn _ c.values.printer _ (literal_tokens item) (joined (map literal_tokens (drop (i + 1) items))) _
    (ap (λ (rest : List Literal). joined (map literal_tokens rest)) (drop_turn items i item c.values-test.true c.value-item.is))
    c.values.invariant c.in_ok-print_literal.ensures

pub print_object_fields-fields-preserved : goal.print_object_fields-fields-preserved
print_object_fields-fields-preserved t c =
    let items = c.as_slice-field-items.result.now in
    let i = c.fields.field-index in
    let item = c.field-item.result in
    turn _ c.fields.printer _ (object_field_tokens item) (joined (map object_field_tokens (drop (i + 1) items))) _
    (ap (λ (rest : List ObjectField). joined (map object_field_tokens rest)) (drop_turn items i item c.fields-test.true c.field-item.is))
    c.fields.invariant c.in_ok-print_object_field.ensures
