-- Which key an object of an answer has. It follows the option `keys` of urql's Graphcache and its default keys.
use Rattle.std.specs.Prelude.{ℕ, List, Option, Some, None, is_some, unwrap_or, bytes_eq, if◌then◌else◌, codes}
use Rattle.std.specs.Option.{option_and_then, option_map}
use Rattle.std.specs.Map.{lookup}
use Rattle.std.specs.Fmt.{signed_decimal}
use Rattle.gql_value.specs.declared.value.Value.{Value, out-Value}
use Rattle.gql_value.specs.declared.value.Value.TheOpen.{Value-F}
use Rattle.cache_model.specs.Keys.{keyed_text}

-- what stands under a name
abbrev pub member : {X : Type 0} → List (List ℕ × X) → List ℕ → Option X
member pairs name = lookup (bytes_eq name) pairs

-- the key field of a type without a setting: `id` where the object has that member, else `_id`
abbrev pub default_key_field : List (List ℕ × Value) → List ℕ
default_key_field fields = if is_some (member fields (codes "id")) then codes "id" else codes "_id"

-- the key field of a type: what is set for it, which may be that it has none, else the default
abbrev pub key_field_of : List (List ℕ × Option (List ℕ)) → List ℕ → List (List ℕ × Value) → Option (List ℕ)
key_field_of rules name fields = unwrap_or (member rules name) (Some (default_key_field fields))

-- the id that one level of a value is: a text as it stands, a whole number in decimal, and nothing else
abbrev pub level_id : Value-F Value → Option (List ℕ)
level_id Value-F.Null = None
level_id (Value-F.Bool value) = None
level_id (Value-F.Int number) = Some (signed_decimal number)
level_id (Value-F.Text text) = Some text
level_id (Value-F.List values) = None
level_id (Value-F.Obj members) = None

-- the id that a value is
abbrev pub id_of : Value → Option (List ℕ)
id_of value = level_id (out-Value value)

-- what an object has under the key field of its type
abbrev pub value_of_key_field : List (List ℕ × Option (List ℕ)) → List ℕ → List (List ℕ × Value) → Option Value
value_of_key_field rules name fields = option_and_then (member fields) (key_field_of rules name fields)

-- the id of an object: that of the value under its key field
abbrev pub object_id : List (List ℕ × Option (List ℕ)) → List ℕ → List (List ℕ × Value) → Option (List ℕ)
object_id rules name fields = option_and_then id_of (value_of_key_field rules name fields)

-- the key of an object that has an id
abbrev pub object_key : List (List ℕ × Option (List ℕ)) → List ℕ → List (List ℕ × Value) → Option (List ℕ)
object_key rules name fields = option_map (keyed_text name) (object_id rules name fields)
