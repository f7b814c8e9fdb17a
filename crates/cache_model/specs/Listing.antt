-- The cells of a map as a list in one order.
use Rattle.std.specs.Prelude.{◌≡◌, ℕ, ◌&&◌, if◌then◌else◌, List, [], ◌∷◌, Some, None, bytes_eq}
use Rattle.std.specs.declared.cmp.Ordering.{Ordering}
use Rattle.std.specs.Ordering.{ordering_then}
use Rattle.std.specs.List.Sorted.{IsStrictlySortedBy}
use Rattle.text_types.specs.Texts.{text_cmp}
use Rattle.cache_model.specs.declared.cell.Cell.{Cell}
use Rattle.cache_model.specs.Maps.{CellMap}

-- an object's key, a field's key and the cell there
abbrev pub Row : Type 0
Row = List ℕ × List ℕ × Cell

-- the cell that some rows have at a place, if any
abbrev pub cell_of_rows : List Row → CellMap
cell_of_rows [] entity field = None
cell_of_rows (row ∷ rows) entity field = if bytes_eq row.0 entity && bytes_eq row.1 field then Some row.2 else cell_of_rows rows entity field

-- the order of places: by the bytes of the object's key, then by those of the field's key
abbrev pub place_cmp : Row → Row → Ordering
place_cmp row other = ordering_then (text_cmp row.0 other.0) (text_cmp row.1 other.1)

-- the rows list a map: they have its cells and no others, each once, in the order of places
pub record ListsMap (rows : List Row) (cells : CellMap) : Type 0 where
  pub sorted : IsStrictlySortedBy place_cmp rows
  pub found : (entity field : List ℕ) → cell_of_rows rows entity field ≡ cells entity field
