-- The names of a list of pairs.
use Rattle.std.specs.Prelude.{◌≡◌, ℕ, List, map, bytes_eq, false}
use Rattle.std.specs.List.{IsDistinct, AllByRecursion}

-- the names, in order
abbrev pub names_of : {X : Type 0} → List (List ℕ × X) → List (List ℕ)
names_of pairs = map (λ p. p.0) pairs

-- no two pairs have one name
abbrev pub HasDistinctNames : {X : Type 0} → List (List ℕ × X) → Type 0
HasDistinctNames pairs = IsDistinct bytes_eq (names_of pairs)

-- no pair has this name
abbrev pub Lacks : {X : Type 0} → List (List ℕ × X) → List ℕ → Type 0
Lacks pairs name = AllByRecursion (λ n. bytes_eq n name ≡ false) (names_of pairs)
