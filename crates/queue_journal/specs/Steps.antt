-- Calls of a disk that belong together, and what a crash among them may leave.
use Rattle.std.specs.Prelude.{◌≡◌, ℕ, List, Option, Some}
use Rattle.fault_causes.specs.Crash.{LeavesOnly}

-- P holds of the file as it reads, where the disk tells it
abbrev pub WhereTold : Option (List ℕ) → (List ℕ → Type 0) → Type 0
WhereTold told P = (file : List ℕ) → told ≡ Some file → P file

-- nothing was changed: the file reads as before, and a crash leaves what it could leave before
pub record IsQuiet {D : Type 0} (reads : D → Option (List ℕ)) (kept : D → ℕ) (may_leave : D → List ℕ → Type 0) (moment : D → ℕ) (left_since : D → ℕ → List ℕ → Type 0) (old new : D) : Type 0 where
  pub file : reads new ≡ reads old
  pub size : kept new ≡ kept old
  pub crash : (c : List ℕ) → may_leave new c → may_leave old c
  pub time : LeavesOnly moment left_since old new (may_leave old)

-- a crash leaves one of these files after a step
abbrev pub After : (List ℕ → List ℕ → Type 0) → (List ℕ → Type 0) → List ℕ → Type 0
After step outcomes c = (d : List ℕ) × outcomes d × step d c
