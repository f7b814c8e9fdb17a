-- The values of defaults, in which further defaults are filled in (GraphQL October 2021, 3.10, Input Coercion).
use Rattle.std.specs.Prelude.{◌≡◌, ℕ, List, [], Option, Some, None}
use Rattle.std.specs.List.{filter_map}
use Rattle.std.specs.Option.{option_map, option_and_then}
use Rattle.gql_model.specs.declared.literal.Literal.{Literal}
use Rattle.gql_model.specs.declared.type_ref.TypeRef.{TypeRef}
use Rattle.gql_value.specs.declared.value.Value.{Value}
use Rattle.schema_model.specs.declared.schema.Schema.{Schema}
use Rattle.schema_model.specs.declared.schema.InputValue.{InputValue}
use Rattle.schema_model.specs.Schemas.{NamedType, input_fields_in}
use Rattle.execution_model.specs.Values.{Pairs}
use Rattle.execution_model.specs.Inputs.{Given, Absent, Refused, Is, Defaults}
use Rattle.execution_model.specs.Literals.{literal_meaning}

-- a constant's value
abbrev pub value_given : Given → Option Value
value_given Absent = None
value_given Refused = None
value_given (Is value) = Some value

-- the value of a constant literal at a type, where the defaults of input fields have these values
abbrev pub constant : Defaults → Schema → Literal → TypeRef → Option Value
constant defaults schema literal type = value_given (literal_meaning defaults schema [] literal (Some type))

-- an input field's name with the value of its default, where it has one that its type takes
abbrev pub field_value : Defaults → Schema → List ℕ × InputValue → Option (List ℕ × Value)
field_value defaults schema field =
    option_and_then (λ literal. option_map (λ value. (field.0, value)) (constant defaults schema literal field.1.input_type.type_ref)) field.1.default

-- the values of the defaults of these input fields, by name and in order; a field without one is left out
abbrev pub fields_values : Defaults → Schema → List (List ℕ × InputValue) → Pairs
fields_values defaults schema fields = filter_map (field_value defaults schema) fields

-- the values of the defaults of a type, where it is an input object type
abbrev pub type_values : Defaults → Schema → NamedType → Option (List ℕ × Pairs)
type_values defaults schema type = option_map (λ fields. (type.0, fields_values defaults schema fields)) (input_fields_in type.1.form)

-- the values of all defaults of a schema, where further defaults in them have these values
abbrev pub values_by : Defaults → Schema → Defaults
values_by defaults schema = filter_map (type_values defaults schema) schema.types

-- These are the values of a schema's defaults: each is what its literal becomes where further defaults are filled in by
-- these values themselves. A schema in which no default needs itself has one list of values that is so.
abbrev pub AreDefaults : Schema → Defaults → Type 0
AreDefaults schema defaults = defaults ≡ values_by defaults schema
