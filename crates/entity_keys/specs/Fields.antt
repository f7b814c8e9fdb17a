-- The text of a field's key. It follows the field keys of urql's Graphcache, with arguments in the order of their names.
use Rattle.std.specs.Prelude.{ℕ, List, [], ◌∷◌}
use Rattle.gql_value.specs.declared.value.Value.{Value}
use Rattle.gql_value.specs.declared.value.Value.TheVariants.{Obj}
use Rattle.gql_value.specs.Sorted.{sorted_text_of}
use Rattle.cache_model.specs.Keys.{field_text}

-- the key of a field: its name, and behind it the sorted text of its arguments in parentheses where it has some
abbrev pub field_key_text : List ℕ → List (List ℕ × Value) → List ℕ
field_key_text name [] = name
field_key_text name (argument ∷ arguments) = field_text name (sorted_text_of (Obj (argument ∷ arguments)))
