-- Names (GraphQL October 2021, 2.1.9).
use Rattle.std.specs.Prelude.{◌≡◌, ℕ, ◌==◌, ◌||◌, ◌&&◌, nat_le, Bool, true, false, List, [], ◌∷◌}
use Rattle.std.specs.List.{list_all}

-- NameStart: a letter or `_`
abbrev pub is_name_start : ℕ → Bool
is_name_start b = b == 95 || (nat_le 65 b && nat_le b 90) || (nat_le 97 b && nat_le b 122)

-- Digit
abbrev pub is_digit : ℕ → Bool
is_digit b = nat_le 48 b && nat_le b 57

-- NameContinue: a letter, a digit or `_`
abbrev pub is_name_continue : ℕ → Bool
is_name_continue b = is_name_start b || is_digit b

-- Name: a name start, and then name characters
abbrev pub is_name : List ℕ → Bool
is_name [] = false
is_name (b ∷ rest) = is_name_start b && list_all is_name_continue rest

-- the text is a name
abbrev pub IsName : List ℕ → Type 0
IsName text = is_name text ≡ true
