-- What each stage gives for one item.
use Rattle.std.specs.Prelude.{◌≡◌, ℕ, zero, suc, List, [], ◌∷◌, ◌++◌, Bool, false, cond}

-- the answer for the item, alone
abbrev pub GivesAnswer : {A B : Type 0} → (A → B → Type 0) → A → List B → Bool → Type 0
GivesAnswer {A} {B} answers x ys ends = (y : B) × answers x y × (ys ≡ y ∷ []) × (ends ≡ false)

-- the item where the answer for it is yes, and else nothing
abbrev pub GivesWhere : {A : Type 0} → (A → Bool → Type 0) → A → List A → Bool → Type 0
GivesWhere answers x ys ends = (yes : Bool) × answers x yes × (ys ≡ cond yes (x ∷ []) []) × (ends ≡ false)

-- the item itself, once the closure has seen it
abbrev pub GivesSeen : {A : Type 0} → (A → Unit {0} → Type 0) → A → List A → Bool → Type 0
GivesSeen sees x ys ends = sees x tt × (ys ≡ x ∷ []) × (ends ≡ false)

-- the items of the answer, in order
abbrev pub GivesEach : {A B V : Type 0} → (A → V → Type 0) → (V → List B) → A → List B → Bool → Type 0
GivesEach {A} {B} {V} answers items x ys ends = (v : V) × answers x v × (ys ≡ items v) × (ends ≡ false)

-- the item where the answer for it is no, and else nothing, and that is the end
abbrev pub GivesUntil : {A : Type 0} → (A → Bool → Type 0) → A → List A → Bool → Type 0
GivesUntil answers x ys ends = answers x ends × (ys ≡ cond ends [] (x ∷ []))

-- n pairs of the item and a number, numbered 0 to n - 1
abbrev pub numbered : {A : Type 0} → A → ℕ → List (ℕ × A)
numbered x zero = []
numbered x (suc n) = numbered x n ++ (n, x) ∷ []

-- the item with each of the numbers below n
abbrev pub GivesNumbered : {A : Type 0} → ℕ → A → List (ℕ × A) → Bool → Type 0
GivesNumbered n x ys ends = (ys ≡ numbered x n) × (ends ≡ false)
