-- The key of an object, by its plain members.
use Rattle.std.specs.Prelude.{ℕ, List, Option, unwrap_or, codes}
use Rattle.std.specs.Option.{option_map, option_or}
use Rattle.gql_value.specs.declared.value.Value.{Value}
use Rattle.cache_model.specs.Keys.{keyed_text, embedded_text}
use Rattle.entity_keys.specs.Objects.{member, id_of, object_key}
use Rattle.execution_model.specs.Values.{Pairs}
use Rattle.answer_model.specs.Keys.{field_key}
use Rattle.answer_model.specs.Writing.{Field}

-- the key of an object by the way that leads to it
abbrev pub embedded_at : Field → List ℕ → List ℕ → List ℕ
embedded_at field name places = embedded_text field.object.entity (field_key field.asked) places name

-- the key of an object with this value under its key field
abbrev pub key_by_value : Field → List ℕ → List ℕ → Value → List ℕ
key_by_value field name places value = unwrap_or (option_map (keyed_text name) (id_of value)) (embedded_at field name places)

-- the key of an object of this type that has these plain members
abbrev pub entity_by : List (List ℕ × Option (List ℕ)) → Field → List ℕ → List ℕ → Pairs → List ℕ
entity_by keys field name places members = unwrap_or (object_key keys name members) (embedded_at field name places)

-- what an object has under `id`, or else under `_id`
abbrev pub default_id : Pairs → Option Value
default_id members = option_or (member members (codes "id")) (member members (codes "_id"))
