-- What a field of an object literal is.
use Rattle.std.proofs.Common.{◌≡◌}
use Rattle.gql_model.specs.declared.literal.ObjectField.{ObjectField, out-ObjectField}
use Rattle.gql_model.specs.declared.literal.LiteralValue.TheFolds.{fold_out-ObjectField}
use Rattle.schema_model.specs.declared.schema.Schema.{Schema}
use Rattle.execution_model.specs.Values.{Pairs}
use Rattle.execution_model.specs.Inputs.{Defaults}
use Rattle.execution_model.specs.Literals.{value_step, literal_step, field_step, literal_meaning, object_field_meaning}

pub field_is : (defaults : Defaults) (schema : Schema) (variables : Pairs) (field : ObjectField)
    → object_field_meaning defaults schema variables field ≡ ((out-ObjectField field).name.text, literal_meaning defaults schema variables (out-ObjectField field).value)
field_is defaults schema variables field = fold_out-ObjectField _ _ _ (value_step defaults schema variables) literal_step field_step field
