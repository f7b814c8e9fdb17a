-- What single values become at a type, and how a single value becomes a list of one (GraphQL October 2021, 3.5, 3.9 and 3.11, Input Coercion).
use Rattle.std.specs.Prelude.{ℕ, ℤ, Bool, false, List, [], ◌∷◌, Option, Some, None, cond, codes, bytes_eq, ◌||◌}
use Rattle.std.specs.Option.{option_map_or}
use Rattle.std.specs.Fmt.{signed_decimal}
use Rattle.gql_model.specs.declared.type_ref.TypeRef.{TypeRef, fold-TypeRef}
use Rattle.gql_model.specs.declared.type_ref.TypeRef.TheOpen.{TypeRef-F}
use Rattle.gql_value.specs.declared.value.Value.{Value}
use Rattle.schema_model.specs.declared.schema.Schema.{Schema}
use Rattle.schema_model.specs.Schemas.{has_value}
use Rattle.schema_model.specs.Tables.{entry}
use Rattle.schema_rules.specs.TypeRefs.{named_type}
use Rattle.schema_defaults.specs.Fits.{takes_integer, takes_string, takes_boolean, takes_any}
use Rattle.execution_model.specs.Values.{int_value, text_value, bool_value, list_value}

-- the type that is wanted at a place; inside a value for a custom scalar none is, and each value stays as it is
abbrev pub Wanted : Type 0
Wanted = Option TypeRef

-- what something becomes at a place, or nothing where the place doesn't take it
abbrev pub Coercing : Type 0
Coercing = Wanted → Option Value

-- a list with this value as its one item
abbrev pub list_of_one : Value → Value
list_of_one value = list_value (value ∷ [])

-- one level of a type: a list type puts what its item type makes of the value into a list of one
abbrev pub list_level : TypeRef-F (Value → Value) → Value → Value
list_level (TypeRef-F.Named name required) value = value
list_level (TypeRef-F.List inner required) value = list_of_one (inner value)

-- a value in as many lists of one as the type has lists
abbrev pub in_lists : TypeRef → Value → Value
in_lists = fold-TypeRef (Value → Value) list_level

-- a value that the named type under all lists takes, or doesn't
abbrev pub value_if : Bool → TypeRef → Value → Option Value
value_if takes type value = cond takes (Some (in_lists type value)) None

-- what a value becomes at a type, by the name of the type under all lists; nothing where that type doesn't take it
abbrev pub taken : (List ℕ → Bool) → (List ℕ → Value) → TypeRef → Option Value
taken takes value type = value_if (takes (named_type type)) type (value (named_type type))

-- the same at a place; where no type is wanted it is the value itself
abbrev pub taken_at : (List ℕ → Bool) → (List ℕ → Value) → Value → Coercing
taken_at takes value itself None = Some itself
taken_at takes value itself (Some type) = taken takes value type

-- an ID is a text
abbrev pub whole_number : ℤ → List ℕ → Value
whole_number n name = cond (bytes_eq name (codes "ID")) (text_value (signed_decimal n)) (int_value n)

-- a whole number: an Int of 32 bits, a Float, an ID, which becomes its decimal text, or a custom scalar
abbrev pub integer_at : Schema → ℤ → Coercing
integer_at schema n = taken_at (takes_integer schema n) (whole_number n) (int_value n)

-- a truth value: a Boolean or a custom scalar
abbrev pub boolean_at : Schema → Bool → Coercing
boolean_at schema b = taken_at (takes_boolean schema) (λ name. bool_value b) (bool_value b)

-- a string literal: a String, an ID or a custom scalar
abbrev pub string_at : Schema → List ℕ → Coercing
string_at schema text = taken_at (takes_string schema) (λ name. text_value text) (text_value text)

-- whether an enum has a value
abbrev pub is_enum_value : Schema → List ℕ → List ℕ → Bool
is_enum_value schema word name = option_map_or (λ t. has_value t.form word) (entry schema.types name) false

-- a name in a document: one of an enum's, or a custom scalar, where it becomes its text
abbrev pub name_at : Schema → List ℕ → Coercing
name_at schema word = taken_at (λ name. is_enum_value schema word name || takes_any schema name) (λ name. text_value word) (text_value word)

-- a text among the variables that are given: a String, an ID, a custom scalar, or one of an enum's names
abbrev pub text_at : Schema → List ℕ → Coercing
text_at schema text = taken_at (λ name. takes_string schema name || is_enum_value schema text name) (λ name. text_value text) (text_value text)
