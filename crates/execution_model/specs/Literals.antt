-- What literals become, once variables have values (GraphQL October 2021, 2.9 and 6.4.1). A literal that doesn't fit its type is refused.
use Rattle.std.specs.Prelude.{ℕ, List, Some, None, cond}
use Rattle.std.specs.Option.{option_map_or}
use Rattle.gql_model.specs.declared.literal.Literal.{Literal}
use Rattle.gql_model.specs.declared.literal.LiteralValue.{LiteralValue}
use Rattle.gql_model.specs.declared.literal.ObjectField.{ObjectField}
use Rattle.gql_model.specs.declared.literal.LiteralValue.TheOpen.{Literal-F, LiteralValue-F, ObjectField-F}
use Rattle.gql_model.specs.declared.literal.LiteralValue.TheFolds.{fold-Literal, fold-LiteralValue, fold-ObjectField}
use Rattle.gql_model.specs.declared.type_ref.TypeRef.{TypeRef, out-TypeRef}
use Rattle.gql_model.specs.declared.type_ref.TypeRef.TheOpen.{TypeRef-F}
use Rattle.schema_model.specs.declared.schema.Schema.{Schema}
use Rattle.schema_model.specs.Tables.{entry}
use Rattle.schema_rules.specs.TypeRefs.{named_type}
use Rattle.schema_defaults.specs.Fits.{takes_any}
use Rattle.execution_model.specs.Values.{Pairs}
use Rattle.execution_model.specs.Scalars.{integer_at, boolean_at, string_at, name_at}
use Rattle.execution_model.specs.Inputs.{Given, Absent, Refused, Is, as_given, Meaning, MemberMeaning, null_at, items_at, as_list, Defaults, input_fields_named, input_members, members_as_given, as_object, as_object_in, free_object}

-- a variable as its value, which isn't coerced again
abbrev pub variable_given : Pairs → List ℕ → Given
variable_given variables name = option_map_or Is (entry variables name) Absent

-- a list at a list type, item by item, or as it stands at a custom scalar
abbrev pub list_in : Schema → List Meaning → TypeRef-F TypeRef → Given
list_in schema items (TypeRef-F.Named name required) = cond (takes_any schema name) (as_list (items_at None items)) Refused
list_in schema items (TypeRef-F.List inner required) = as_list (items_at (Some inner) items)

-- a list at a place: by the type that is wanted, or as it stands where none is
abbrev pub list_at : Schema → List Meaning → Meaning
list_at schema items None = as_list (items_at None items)
list_at schema items (Some type) = list_in schema items (out-TypeRef type)

-- an object at an input object type, or as it stands at a custom scalar
abbrev pub object_in : Defaults → Schema → List MemberMeaning → TypeRef → Given
object_in defaults schema members type =
    option_map_or (λ fields. as_object_in type (input_members (entry defaults (named_type type)) members fields)) (input_fields_named schema (named_type type)) (free_object schema members type)

-- an object at a place: by the type that is wanted, or as it stands where none is
abbrev pub object_at : Defaults → Schema → List MemberMeaning → Meaning
object_at defaults schema members None = as_object (members_as_given members)
object_at defaults schema members (Some type) = object_in defaults schema members type

-- what a literal of each form is at a place, where its items and fields have these meanings
abbrev pub value_step : Defaults → Schema → Pairs → LiteralValue-F Meaning Meaning MemberMeaning → Meaning
value_step defaults schema variables (LiteralValue-F.Variable name) wanted = variable_given variables name
value_step defaults schema variables (LiteralValue-F.Integer text number) wanted = as_given (integer_at schema number wanted)
value_step defaults schema variables (LiteralValue-F.String text) wanted = as_given (string_at schema text wanted)
value_step defaults schema variables (LiteralValue-F.Boolean b) wanted = as_given (boolean_at schema b wanted)
value_step defaults schema variables LiteralValue-F.Null wanted = null_at wanted
value_step defaults schema variables (LiteralValue-F.Enum word) wanted = as_given (name_at schema word wanted)
value_step defaults schema variables (LiteralValue-F.List items) wanted = list_at schema items wanted
value_step defaults schema variables (LiteralValue-F.Object fields) wanted = object_at defaults schema fields wanted

-- a literal is what its value is; where it stands in the text doesn't matter
abbrev pub literal_step : Literal-F Meaning Meaning MemberMeaning → Meaning
literal_step literal = literal.value

-- a field of an object literal: its name, with what its value is at a place
abbrev pub field_step : ObjectField-F Meaning Meaning MemberMeaning → MemberMeaning
field_step field = (field.name.text, field.value)

-- what a literal is at a place, where variables have these values
abbrev pub literal_meaning : Defaults → Schema → Pairs → Literal → Meaning
literal_meaning defaults schema variables = fold-Literal Meaning Meaning MemberMeaning (value_step defaults schema variables) literal_step field_step

-- the same of the value of a literal, without its place in the text
abbrev pub value_meaning : Defaults → Schema → Pairs → LiteralValue → Meaning
value_meaning defaults schema variables = fold-LiteralValue Meaning Meaning MemberMeaning (value_step defaults schema variables) literal_step field_step

-- the same of a field of an object literal, with its name
abbrev pub object_field_meaning : Defaults → Schema → Pairs → ObjectField → MemberMeaning
object_field_meaning defaults schema variables = fold-ObjectField Meaning Meaning MemberMeaning (value_step defaults schema variables) literal_step field_step
