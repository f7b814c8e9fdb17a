-- The map of cells, and what writes make of it.
use Rattle.std.specs.Prelude.{ℕ, Bool, ◌&&◌, if◌then◌else◌, List, [], ◌∷◌, Option, Some, None, bytes_eq}
use Rattle.gate_machine.specs.declared.key.EntityKey.{EntityKey}
use Rattle.gate_machine.specs.declared.cell.Cell.{Cell}
use Rattle.gate_machine.specs.declared.cell.Write.{Write}
use Rattle.gate_machine.specs.Keys.{same_key}

-- the cell at a field of an object, where there is one
abbrev pub CellMap : Type 0
CellMap = EntityKey → List ℕ → Option Cell

-- the map without cells
abbrev pub no_cells : CellMap
no_cells entity field = None

-- a write sets this cell
abbrev pub sets : Write → EntityKey → List ℕ → Bool
sets write entity field = same_key write.entity entity && bytes_eq write.field field

-- the map after a write: its cell is set, all others stay
abbrev pub applied : CellMap → Write → CellMap
applied map write entity field = if sets write entity field then Some write.cell else map entity field

-- the map after some writes, one after another
abbrev pub all_applied : CellMap → List Write → CellMap
all_applied map [] = map
all_applied map (write ∷ writes) = all_applied (applied map write) writes

-- The present result of each operation that was sent, in order of first sending. One that has no
-- response yet has no writes.
abbrev pub History : Type 0
History = List (List Write)

-- a map after the writes of some results, one result after another
abbrev pub flattened_over : CellMap → History → CellMap
flattened_over map [] = map
flattened_over map (writes ∷ later) = flattened_over (all_applied map writes) later

-- one plain map after all present results, written in order of first sending
abbrev pub flattened : History → CellMap
flattened = flattened_over no_cells
