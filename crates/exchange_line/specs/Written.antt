-- The writes of an answer behind those before it, and the key that an object's answer tells.
use Rattle.std.specs.Prelude.{◌≡◌, ℕ, List, ◌++◌, codes, Option, Some, option_map, option_and_then}
use Rattle.serde_json.specs.Data.{Data}
use Rattle.serde_json.specs.Find.{as_str, get}
use Rattle.gate_machine.specs.declared.cell.Write.{Write}
use Rattle.gate_machine.specs.declared.key.EntityKey.{EntityKey}
use Rattle.gate_machine.specs.Answers.{Writing, key_of_object, id_asked, object_written}

-- there are such writes, and the new list is the old one with them behind
abbrev pub Appends : List Write → List Write → Option (List Write) → Type 0
Appends old new writes = option_map (λ added. old ++ added) writes ≡ Some new

-- the type that an object's answer names (GraphQL October 2021, 4.1, Type Name Introspection)
abbrev pub type_told : Data → Option (List ℕ)
type_told answer = option_and_then as_str (get (codes "__typename") answer)

-- the key of the object at a field of the parent, where its answer names a type
abbrev pub key_told : EntityKey → List ℕ → List (List ℕ × Writing) → Data → Option EntityKey
key_told parent field fields answer = option_map (λ type_name. key_of_object parent field type_name (id_asked fields answer)) (type_told answer)

-- the writes of the object at a field, where its answer names a type and has the form that was asked
abbrev pub typed_object_written : List (List ℕ × Writing) → EntityKey → List ℕ → Data → Option (List Write)
typed_object_written fields entity field answer = option_and_then (object_written fields entity field answer) (type_told answer)
