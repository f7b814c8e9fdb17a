-- The least line of a fault.
use Rattle.std.specs.Prelude.{ℕ, List, Option, None, Some, min}
use Rattle.std.specs.List.{fold}

-- the lesser of two lines, either of which may be missing
abbrev pub earlier : Option ℕ → Option ℕ → Option ℕ
earlier None b = b
earlier (Some a) None = Some a
earlier (Some a) (Some b) = Some (min a b)

-- the least line that the items of a list give
abbrev pub least_by : {X : Type 0} → (X → Option ℕ) → List X → Option ℕ
least_by line xs = fold (λ least x. earlier least (line x)) None xs

-- a name and its line
abbrev pub Mark : Type 0
Mark = List ℕ × ℕ
