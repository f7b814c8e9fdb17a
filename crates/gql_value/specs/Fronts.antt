-- What still stands of a text where a write to its end broke off.
use Rattle.std.specs.Prelude.{◌≡◌, ℕ, List, ◌++◌}

-- the longer text begins with the shorter
abbrev pub IsFront : List ℕ → List ℕ → Type 0
IsFront front text = (more : List ℕ) × (text ≡ front ++ more)
