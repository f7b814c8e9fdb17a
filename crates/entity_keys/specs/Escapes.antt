-- Which bytes stand escaped inside an entity key.
use Rattle.std.specs.Prelude.{◌≡◌, ℕ, ◌==◌, ◌||◌, true}

-- `%`, which is byte 37, and `.`, which is byte 46
abbrev pub IsEscaped : ℕ → Type 0
IsEscaped b = (b == 37 || b == 46) ≡ true
