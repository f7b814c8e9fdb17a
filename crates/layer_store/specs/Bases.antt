-- What the squashed base has at a cell, and where there is room for one.
use Rattle.std.specs.Prelude.{ℕ, Bool, true, false, List, Option, Some, None, is_some}
use Rattle.std.specs.BTreeMap.{BTreeMap, get}
use Rattle.text_types.specs.Texts.{text_cmp}
use Rattle.cache_model.specs.declared.cell.Cell.{Cell}
use Rattle.cache_model.specs.Maps.{CellMap}
use Rattle.layer_store.specs.declared.fields.Fields.{Fields}
use Rattle.layer_store.specs.declared.changes.Changes.{Changes}
use Rattle.layer_store.specs.declared.base.Base.{Base}

-- the fields of one object, each with its cell, or with nothing while room is made for one
abbrev pub Places : Type 0
Places = BTreeMap (List ℕ) (Option Cell)

-- the cell of a place, if it has one
abbrev pub cell_of : Option (Option Cell) → Option Cell
cell_of None = None
cell_of (Some cell) = cell

-- the place of a field, if its object is there at all
abbrev pub place_in : Option Places → List ℕ → Option (Option Cell)
place_in None field = None
place_in (Some places) field = get text_cmp places field

-- the place of a cell in the base
abbrev pub place_at : Base → List ℕ → List ℕ → Option (Option Cell)
place_at base entity field = place_in (get text_cmp base.entities entity) field

-- the cell that the base has
abbrev pub base_at : Base → CellMap
base_at base entity field = cell_of (place_at base entity field)

-- the base has a place for the cell
abbrev pub has_place : Base → List ℕ → List ℕ → Bool
has_place base entity field = is_some (place_at base entity field)

-- a cell stands there, and no tombstone
abbrev pub is_cell : Option (Option Cell) → Bool
is_cell None = false
is_cell (Some None) = false
is_cell (Some (Some cell)) = true

-- what is kept of an object sets the field
abbrev pub sets_in : Option Fields → List ℕ → Bool
sets_in None field = false
sets_in (Some fields) field = is_cell (get text_cmp fields.cells field)

-- some changes set the cell
abbrev pub sets : Changes → List ℕ → List ℕ → Bool
sets changes entity field = sets_in (get text_cmp changes.entities entity) field
