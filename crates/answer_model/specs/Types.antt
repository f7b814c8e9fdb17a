-- The types of objects in answers and in the cache, told by `__typename` (GraphQL October 2021, 4.1).
use Rattle.std.specs.Prelude.{ℕ, List, Option, Some, None, cond, codes}
use Rattle.std.specs.Option.{option_map, option_and_then}
use Rattle.gql_value.specs.declared.value.Value.{Value, out-Value}
use Rattle.gql_value.specs.declared.value.Value.TheOpen.{Value-F}
use Rattle.schema_model.specs.declared.schema.Schema.{Schema}
use Rattle.schema_model.specs.declared.schema.TypeId.{TypeId}
use Rattle.schema_model.specs.Schemas.{id_named, type_at}
use Rattle.schema_model.specs.Possible.{is_possible_of}
use Rattle.schema_model.specs.Tables.{entry}
use Rattle.execution_model.specs.Values.{Pairs}

-- the number of an object type, and its name
abbrev pub ObjectType : Type 0
ObjectType = TypeId × List ℕ

-- the text of a value that is a text, and nothing for any other value
abbrev pub text_in : Value-F Value → Option (List ℕ)
text_in (Value-F.Text text) = Some text
text_in _ = None

-- the text that a value is
abbrev pub text_of : Value → Option (List ℕ)
text_of value = text_in (out-Value value)

-- the type of this number and name, where it is an object type that is possible at the composite type `parent`
abbrev pub possible : Schema → TypeId → List ℕ → TypeId → Option ObjectType
possible schema parent name id = cond (is_possible_of schema id parent) (Some (id, name)) None

-- the object type of a name, where it is possible at a composite type
abbrev pub possible_named : Schema → TypeId → List ℕ → Option ObjectType
possible_named schema parent name = option_and_then (possible schema parent name) (id_named schema name)

-- the object type that a value names, where it is possible at a composite type
abbrev pub type_told : Schema → TypeId → Value → Option ObjectType
type_told schema parent value = option_and_then (possible_named schema parent) (text_of value)

-- the object type that the members of an object tell
abbrev pub type_of_members : Schema → TypeId → Pairs → Option ObjectType
type_of_members schema parent members = option_and_then (type_told schema parent) (entry members (codes "__typename"))

-- an object type with its name
abbrev pub with_name : Schema → TypeId → Option ObjectType
with_name schema id = option_map (λ t. (id, t.0)) (type_at schema id)
