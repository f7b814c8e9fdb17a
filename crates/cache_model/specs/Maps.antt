-- The map of cells, and what writes make of it.
use Rattle.std.specs.Prelude.{ℕ, Bool, if◌then◌else◌, List, [], ◌∷◌, Option, Some, None, unwrap_or, is_some, bytes_eq}
use Rattle.cache_model.specs.declared.cell.Cell.{Cell}
use Rattle.cache_model.specs.declared.write.Write.{Write}
use Rattle.cache_model.specs.declared.write.Write.TheVariants.{Set, Drop, DropName, DropAll}
use Rattle.cache_model.specs.Keys.{field_name_of}

-- the cell at a field of an object, where there is one
abbrev pub CellMap : Type 0
CellMap = List ℕ → List ℕ → Option Cell

-- the map without cells
abbrev pub no_cells : CellMap
no_cells entity field = None

-- the object whose cells a write changes
abbrev pub entity_of : Write → List ℕ
entity_of (Set entity field cell) = entity
entity_of (Drop entity field) = entity
entity_of (DropName entity name) = entity
entity_of (DropAll entity) = entity

-- what a write says of a field of its object: nothing, or what stands there after it
abbrev pub field_hit : Write → List ℕ → Option (Option Cell)
field_hit (Set entity field cell) other = if bytes_eq field other then Some (Some cell) else None
field_hit (Drop entity field) other = if bytes_eq field other then Some None else None
field_hit (DropName entity name) other = if bytes_eq name (field_name_of other) then Some None else None
field_hit (DropAll entity) other = Some None

-- what a write says of any cell: nothing of another object's
abbrev pub hit : Write → List ℕ → List ℕ → Option (Option Cell)
hit write entity field = if bytes_eq (entity_of write) entity then field_hit write field else None

-- a write covers the cells of which it says something
abbrev pub covers : Write → List ℕ → List ℕ → Bool
covers write entity field = is_some (hit write entity field)

-- the map after a write: what it covers is as it says, all other cells stay
abbrev pub applied : CellMap → Write → CellMap
applied map write entity field = unwrap_or (hit write entity field) (map entity field)

-- the map after some writes, one after another
abbrev pub all_applied : CellMap → List Write → CellMap
all_applied map [] = map
all_applied map (write ∷ writes) = all_applied (applied map write) writes

-- the first answer where there is one, else the second
abbrev pub or_else : Option (Option Cell) → Option (Option Cell) → Option (Option Cell)
or_else (Some answer) other = Some answer
or_else None other = other

-- what some writes say of a cell: what the last of them that covers it says
abbrev pub effect : List Write → List ℕ → List ℕ → Option (Option Cell)
effect [] entity field = None
effect (write ∷ writes) entity field = or_else (effect writes entity field) (hit write entity field)
