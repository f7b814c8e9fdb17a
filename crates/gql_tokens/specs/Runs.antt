-- A rule taken again and again from the front of a text.
use Rattle.std.specs.Prelude.{◌≡◌, ℕ, zero, suc, ◌+◌, ◌-◌, Option, Some, None, List, [], ◌∷◌, ◌++◌, drop}

-- a rule says what stands at the front of a text: what it means, and how many bytes it takes; or none
abbrev pub Rule : Type 0
Rule = List ℕ → Option (List ℕ × ℕ)

-- one byte more is taken, and these bytes are meant before the others
abbrev pub meaning : List ℕ → List ℕ × ℕ → List ℕ × ℕ
meaning bytes others = (bytes ++ others.0, 1 + others.1)

-- what stands at the front, and what the rest gives behind the bytes that it takes
abbrev pub run_on : (ℕ → List ℕ × ℕ) → Option (List ℕ × ℕ) → List ℕ × ℕ
run_on others None = ([], 0)
run_on others (Some (bytes, n)) = meaning bytes (others (n - 1))

-- the run of a text whose first bytes, so many, belong to what was taken before
abbrev pub run_behind : Rule → ℕ → List ℕ → List ℕ × ℕ
run_behind rule left [] = ([], 0)
run_behind rule (suc left) (b ∷ rest) = meaning [] (run_behind rule left rest)
run_behind rule zero (b ∷ rest) = run_on (λ left. run_behind rule left rest) (rule (b ∷ rest))

-- the longest run: what all that the rule takes one after another means, and how many bytes it takes
abbrev pub run : Rule → List ℕ → List ℕ × ℕ
run rule text = run_behind rule 0 text

-- this stretch begins the run of the text, which goes on behind the bytes that the stretch takes; or the run is empty, where there is none
abbrev pub Begins : Rule → List ℕ → Option (List ℕ × ℕ) → Type 0
Begins rule text None = run rule text ≡ ([], 0)
Begins rule text (Some (bytes, n)) =
    ((run rule text).0 ≡ bytes ++ (run rule (drop n text)).0) × ((run rule text).1 ≡ n + (run rule (drop n text)).1)
