-- Crashes: what one may leave at this moment, and what one might have left since an earlier one.
use Rattle.std.specs.Prelude.{◌≡◌, ◌⊎◌, ℕ, ◌≤◌}

-- a crash leaves this content and nothing else
abbrev pub Only : {C : Type 0} → C → (C → Type 0) → Type 0
Only {C} content outcomes = (c : C) → outcomes c → c ≡ content

-- each outcome after the step was one before it, but for what the step may do
abbrev pub Follows : {C : Type 0} → (C → C → Type 0) → (C → Type 0) → (C → Type 0) → Type 0
Follows {C} step old new = (c : C) → new c → (d : C) × old d × step d c

-- time goes on: a crash since a moment might have left what it might have left before, or what it may leave now, and nothing of this is forgotten
pub record Elapses {C : Type 0} (before now : ℕ) (past since : ℕ → C → Type 0) (may_leave : C → Type 0) : Type 0 where
  pub later : before ≤ now
  pub nothing_else : (t : ℕ) (c : C) → t ≤ before → since t c → past t c ⊎ may_leave c
  pub keeps : (t : ℕ) (c : C) → t ≤ before → past t c → since t c

-- a crash at any moment since the old state leaves a content of which P holds; one since an earlier moment left what it might have left by then, or such a content
pub record LeavesOnly {S C : Type 0} (moment : S → ℕ) (left_since : S → ℕ → C → Type 0) (old new : S) (P : C → Type 0) : Type 0 where
  pub later : moment old ≤ moment new
  pub each : (c : C) → left_since new (moment old) c → P c
  pub before : (t : ℕ) (c : C) → t ≤ moment old → left_since new t c → left_since old t c ⊎ P c
  pub keeps : (t : ℕ) (c : C) → t ≤ moment old → left_since old t c → left_since new t c
