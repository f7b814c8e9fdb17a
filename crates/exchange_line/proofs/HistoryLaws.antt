-- The newest write of a cell says what stands there.
use Rattle.std.proofs.Common.{◌≡◌, ℕ, Bool, true, false, cond, List, [], ◌∷◌, ◌++◌, reverse, Option, Some, None, refl, ap, ◌∙◌}
use Rattle.std.specs.Option.{option_map, option_or}
use Rattle.std.specs.List.{find}
use Rattle.std.proofs.lemmas.List.{reverse-append}
use Rattle.std.proofs.lemmas.List.Folds.{find-append}
use Rattle.gate_machine.specs.declared.key.EntityKey.{EntityKey}
use Rattle.gate_machine.specs.declared.cell.Cell.{Cell}
use Rattle.gate_machine.specs.declared.cell.Write.{Write}
use Rattle.gate_machine.specs.Cells.{CellMap, History, no_cells, sets, applied, all_applied, flattened_over, flattened}

abbrev cell_of : Option Write → Option Cell
cell_of write = option_map (λ w. w.cell) write

-- what the later writes leave as it was, the one before them may set
or_set : (later : Option Write) (b : Bool) (w : Write) (before : Option Cell) → option_or (cell_of later) (cond b (Some w.cell) before) ≡ option_or (cell_of (option_or later (cond b (Some w) None))) before
or_set (Some v) b w before = refl
or_set None true w before = refl
or_set None false w before = refl

-- after some writes a cell is as the last of them that sets it says, or else as it was
all_applied-last : (map : CellMap) (writes : List Write) (entity : EntityKey) (field : List ℕ) → all_applied map writes entity field ≡ option_or (cell_of (find (λ w. sets w entity field) (reverse writes))) (map entity field)
all_applied-last map [] entity field = refl
all_applied-last map (w ∷ writes) entity field =
    let test : Write → Bool = λ v. sets v entity field in
    all_applied-last (applied map w) writes entity field
    ∙ or_set (find test (reverse writes)) (test w) w (map entity field)
    ∙ rw (reverse-append (w ∷ []) writes, find-append test (reverse writes) (w ∷ []))

flattened_over-push : (map : CellMap) (history : History) (writes : List Write) → flattened_over map (history ++ writes ∷ []) ≡ all_applied (flattened_over map history) writes
flattened_over-push map [] writes = refl
flattened_over-push map (first ∷ history) writes = flattened_over-push (all_applied map first) history writes

-- a cell is as the last write of the newest result says that sets it, or else as the results before it say
pub newest_result : (history : History) (writes : List Write) (entity : EntityKey) (field : List ℕ) → flattened (history ++ writes ∷ []) entity field ≡ option_or (cell_of (find (λ w. sets w entity field) (reverse writes))) (flattened history entity field)
newest_result history writes entity field =
    ap (λ (map : CellMap). map entity field) (flattened_over-push no_cells history writes)
    ∙ all_applied-last (flattened history) writes entity field
