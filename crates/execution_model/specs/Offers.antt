-- What values that a client gives become at a type (GraphQL October 2021, 3.5 to 3.12, Input Coercion).
use Rattle.std.specs.Prelude.{ℕ, Bool, List, Some, None, cond, is_some, Option}
use Rattle.std.specs.List.{list_all}
use Rattle.std.specs.Option.{option_map_or}
use Rattle.gql_model.specs.declared.type_ref.TypeRef.{TypeRef}
use Rattle.gql_value.specs.declared.value.Value.{Value, fold-Value}
use Rattle.gql_value.specs.declared.value.Value.TheOpen.{Value-F}
use Rattle.schema_model.specs.declared.schema.Schema.{Schema}
use Rattle.schema_model.specs.declared.schema.InputValue.{InputValue}
use Rattle.schema_model.specs.Tables.{entry}
use Rattle.schema_rules.specs.TypeRefs.{named_type}
use Rattle.execution_model.specs.Scalars.{integer_at, boolean_at, text_at}
use Rattle.execution_model.specs.Values.{Pairs}
use Rattle.execution_model.specs.Inputs.{Given, Refused, as_given, Meaning, MemberMeaning, null_at, Defaults, input_fields_named, input_members, members_as_given, as_object, as_object_in, free_object}
use Rattle.execution_model.specs.Literals.{list_at}

-- an object has known members only
abbrev pub are_known : List (List ℕ × InputValue) → List MemberMeaning → Bool
are_known fields members = list_all (λ m. is_some (entry fields m.0)) members

-- an object of a type with these input fields; refused where a member is none of them (GraphQL October 2021, 3.10)
abbrev pub known_members : Option Pairs → List MemberMeaning → List (List ℕ × InputValue) → TypeRef → Given
known_members values members fields type = cond (are_known fields members) (as_object_in type (input_members values members fields)) Refused

-- an object at an input object type, or as it stands at a custom scalar
abbrev pub object_in : Defaults → Schema → List MemberMeaning → TypeRef → Given
object_in defaults schema members type =
    option_map_or (λ fields. known_members (entry defaults (named_type type)) members fields type) (input_fields_named schema (named_type type)) (free_object schema members type)

-- an object at a place: by the type that is wanted, or as it stands where none is
abbrev pub object_at : Defaults → Schema → List MemberMeaning → Meaning
object_at defaults schema members None = as_object (members_as_given members)
object_at defaults schema members (Some type) = object_in defaults schema members type

-- what a given value of each form is at a place, where its items and members have these meanings
abbrev pub offer_step : Defaults → Schema → Value-F Meaning → Meaning
offer_step defaults schema Value-F.Null wanted = null_at wanted
offer_step defaults schema (Value-F.Bool b) wanted = as_given (boolean_at schema b wanted)
offer_step defaults schema (Value-F.Int n) wanted = as_given (integer_at schema n wanted)
offer_step defaults schema (Value-F.Text text) wanted = as_given (text_at schema text wanted)
offer_step defaults schema (Value-F.List items) wanted = list_at schema items wanted
offer_step defaults schema (Value-F.Obj members) wanted = object_at defaults schema members wanted

-- what a value is at a place
abbrev pub offered : Defaults → Schema → Value → Meaning
offered defaults schema = fold-Value Meaning (offer_step defaults schema)
