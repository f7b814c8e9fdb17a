-- What the rows of an expansion stand for: the fields of an operation, each below the field of an earlier row.
use Rattle.std.specs.Prelude.{◌≡◌, ℕ, ◌<◌, Bool, ◌||◌, List, [], ◌∷◌, ◌++◌, Option, Some, None, length, map, slice_get}
use Rattle.std.specs.List.{list_any}
use Rattle.std.specs.Option.{option_map_or}
use Rattle.schema_model.specs.declared.schema.Schema.{Schema}
use Rattle.check_model.specs.FieldTypes.{Parent, selected_type}
use Rattle.check_model.specs.Fields.{Placed, PlacedFields}
use Rattle.merge_rules.specs.declared.rows.Row.{Row}

-- the path of the field at a place, or of the operation's own set
abbrev pub above_path : PlacedFields → Option ℕ → List (List ℕ)
above_path fields None = []
above_path fields (Some place) = option_map_or (λ f. f.path) (slice_get fields place) []

-- the types of the sets in which the response keys of that path stand; none for the operation's own set
abbrev pub above_parents : PlacedFields → Option ℕ → List Parent
above_parents fields None = []
above_parents fields (Some place) = option_map_or (λ f. f.parents) (slice_get fields place) []

-- the field that a row stands for
abbrev pub field_of_row : Schema → PlacedFields → Row → Placed
field_of_row schema fields row = record {
  path = above_path fields row.above ++ row.key.now ∷ [];
  parents = above_parents fields row.above ++ row.parent ∷ [];
  name = row.name.now;
  arguments = row.arguments.now;
  type = selected_type schema row.parent row.name.now;
}

-- a place below a number, or none
abbrev pub IsWithin : Option ℕ → ℕ → Type 0
IsWithin None n = Unit {0}
IsWithin (Some place) n = place < n

-- each row is at the top or below an earlier one
abbrev pub IsOrdered : List Row → Type 0
IsOrdered rows = (i : ℕ) (row : Row) → slice_get rows i ≡ Some row → IsWithin row.above i

-- as many fields as rows, each the one that the row at its place stands for; each row is at the top or below an earlier one
pub record Stands (schema : Schema) (rows : List Row) (fields : PlacedFields) : Type 0 where
  pub long : length fields ≡ length rows
  pub field : (i : ℕ) (row : Row) → slice_get rows i ≡ Some row → slice_get fields i ≡ Some (field_of_row schema fields row)
  pub earlier : IsOrdered rows

-- a field further down, below a path
abbrev pub under : List (List ℕ) → List Parent → Placed → Placed
under path parents field = record field { path = path ++ field.path; parents = parents ++ field.parents }

-- rows that stand for some fields more: a test holds of one of all these just where it holds of one before or of one to be added
pub record Grown (schema : Schema) (rows : List Row) (fields added : PlacedFields) : Type 0 where
  pub more : PlacedFields
  pub stands : Stands schema rows (fields ++ more)
  pub same : (test : Placed → Bool) → list_any test (fields ++ more) ≡ (list_any test fields || list_any test added)

-- so for all fields that the rows stood for before
abbrev pub Grows : Schema → List Row → List Row → Option ℕ → PlacedFields → Type 0
Grows schema before after above added =
    (fields : PlacedFields) → Stands schema before fields
    → Grown schema after fields (map (under (above_path fields above) (above_parents fields above)) added)

-- rows that stand for one field more, which is at a place
pub record Put (schema : Schema) (rows : List Row) (fields : PlacedFields) (field : Placed) (place : ℕ) : Type 0 where
  pub grown : Grown schema rows fields (field ∷ [])
  pub at : slice_get (fields ++ grown.more) place ≡ Some field
