-- The keys of fields that are asked (after urql's Graphcache).
use Rattle.std.specs.Prelude.{ℕ, List}
use Rattle.entity_keys.specs.Fields.{field_key_text}
use Rattle.execution_model.specs.Asked.{Asked}

-- the key of a field's cell: its name with the values of its arguments
abbrev pub field_key : Asked → List ℕ
field_key asked = field_key_text asked.name asked.arguments
