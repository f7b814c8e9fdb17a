-- The rows of some changes: their cells, object by object and field by field.
use Rattle.std.specs.Prelude.{ℕ, List, [], ◌∷◌, ◌++◌, Option, Some, None}
use Rattle.std.specs.List.{AllByRecursion}
use Rattle.std.specs.List.Sorted.{IsStrictlySortedBy}
use Rattle.std.specs.Map.{keys_of}
use Rattle.text_types.specs.Texts.{text_cmp}
use Rattle.cache_model.specs.declared.cell.Cell.{Cell}
use Rattle.cache_model.specs.Listing.{Row}
use Rattle.layer_store.specs.declared.fields.Fields.{Fields}

-- the row of a cell, and none for a tombstone
abbrev pub row_of : List ℕ → List ℕ → Option Cell → List Row
row_of entity field None = []
row_of entity field (Some cell) = (entity, field, cell) ∷ []

-- the rows of one object
abbrev pub rows_in : List ℕ → List (List ℕ × Option Cell) → List Row
rows_in entity [] = []
rows_in entity (entry ∷ entries) = row_of entity entry.0 entry.1 ++ rows_in entity entries

-- the rows of some objects
abbrev pub rows_by : List (List ℕ × Fields) → List Row
rows_by [] = []
rows_by (entry ∷ entries) = rows_in entry.0 entry.1.cells.entries ++ rows_by entries

-- the fields of an entry stand in order
abbrev pub AreFieldsOrdered : List ℕ × Fields → Type 0
AreFieldsOrdered entry = IsStrictlySortedBy text_cmp (keys_of entry.1.cells.entries)

-- objects and fields stand in order
pub record AreOrdered (entries : List (List ℕ × Fields)) : Type 0 where
  pub entities : IsStrictlySortedBy text_cmp (keys_of entries)
  pub fields : AllByRecursion AreFieldsOrdered entries
