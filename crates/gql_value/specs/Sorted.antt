-- The text of a value with the members of each object in the order of their names.
use Rattle.std.specs.Prelude.{ℕ, List, [], fold}
use Rattle.std.specs.BTreeMap.{insert_entry}
use Rattle.text_types.specs.Texts.{text_cmp}
use Rattle.gql_value.specs.declared.value.Value.{Value, fold-Value}
use Rattle.gql_value.specs.declared.value.Value.TheOpen.{Value-F}
use Rattle.gql_value.specs.Text.{text_step, object_text}

-- members in the order of the bytes of their names: each in turn is put in its place
abbrev pub by_name : {X : Type 0} → List (List ℕ × X) → List (List ℕ × X)
by_name members = fold (λ sorted m. insert_entry text_cmp sorted m.0 m.1) [] members

-- the sorted text of one level, where each value inside is its sorted text already
abbrev pub sorted_step : Value-F (List ℕ) → List ℕ
sorted_step (Value-F.Obj members) = object_text (by_name members)
sorted_step level = text_step level

-- the compact text of a value whose objects, at every depth, have their members in the order of the bytes of their names
abbrev pub sorted_text_of : Value → List ℕ
sorted_text_of = fold-Value (List ℕ) sorted_step
