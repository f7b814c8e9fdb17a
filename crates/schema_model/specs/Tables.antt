-- Tables of values by name.
use Rattle.std.specs.Prelude.{ℕ, List, [], ◌∷◌, ◌++◌, Option, is_some, if◌then◌else◌, bytes_eq}
use Rattle.std.specs.List.{fold, position_from}
use Rattle.std.specs.Map.{lookup}

-- the place of a name among the pairs, counted from 0
abbrev pub place_of : {X : Type 0} → List (List ℕ × X) → List ℕ → Option ℕ
place_of pairs name = position_from (λ p. bytes_eq name p.0) 0 pairs

-- the value of a name
abbrev pub entry : {X : Type 0} → List (List ℕ × X) → List ℕ → Option X
entry pairs name = lookup (bytes_eq name) pairs

-- the pairs with one more, unless its name is there
abbrev pub put : {X : Type 0} → List (List ℕ × X) → List ℕ × X → List (List ℕ × X)
put pairs p = if is_some (place_of pairs p.0) then pairs else pairs ++ p ∷ []

-- the first pair of each name
abbrev pub tabled : {X : Type 0} → List (List ℕ × X) → List (List ℕ × X)
tabled pairs = fold put [] pairs
