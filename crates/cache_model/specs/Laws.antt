-- Laws of writes and histories, which the layers above cite.
use Rattle.std.specs.Prelude.{◌≡◌, ◌≢◌, ℕ, ◌≤◌, List, unwrap_or, is_some}
use Rattle.std.specs.List.{list_any}
use Rattle.cache_model.specs.declared.write.Write.{Write}
use Rattle.cache_model.specs.declared.kind.Kind.{Kind}
use Rattle.cache_model.specs.Maps.{CellMap, covers, all_applied, effect}
use Rattle.cache_model.specs.History.{History, filled, flattened}

-- writes change a cell as the last of them says that covers it, and leave every other cell
abbrev pub AppliedByEffect : Type 0
AppliedByEffect = (map : CellMap) (writes : List Write) (entity field : List ℕ)
    → all_applied map writes entity field ≡ unwrap_or (effect writes entity field) (map entity field)

-- the cells of which some writes say something are those that one of them covers
abbrev pub EffectWhereCovered : Type 0
EffectWhereCovered = (writes : List Write) (entity field : List ℕ)
    → is_some (effect writes entity field) ≡ list_any (λ write. covers write entity field) writes

-- fills of two different tickets lead to one history, in either order
abbrev pub FillsCommute : Type 0
FillsCommute = (history : History) (ticket other : ℕ) (writes other_writes : List Write) (kind other_kind : Kind)
    → 1 ≤ ticket → 1 ≤ other → ticket ≢ other
    → filled (filled history ticket writes kind) other other_writes other_kind ≡ filled (filled history other other_writes other_kind) ticket writes kind

-- and so to one map
abbrev pub FillsCommuteFlattened : Type 0
FillsCommuteFlattened = (history : History) (ticket other : ℕ) (writes other_writes : List Write) (kind other_kind : Kind)
    → 1 ≤ ticket → 1 ≤ other → ticket ≢ other
    → (entity field : List ℕ)
    → flattened (filled (filled history ticket writes kind) other other_writes other_kind) entity field
    ≡ flattened (filled (filled history other other_writes other_kind) ticket writes kind) entity field
