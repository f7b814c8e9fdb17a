-- Rows and columns, which count from 1; columns count characters.
use Rattle.std.specs.Prelude.{ℕ, zero, suc, ◌+◌, ◌&&◌, nat_le, nat_lt, Bool, if◌then◌else◌, List, [], ◌∷◌}
use Rattle.gql_tokens.specs.declared.token.Place.{Place}
use Rattle.gql_tokens.specs.Characters.{ends_line}

-- where a text begins
abbrev pub first_place : Place
first_place = record { row = 1; column = 1 }

-- a byte inside a character, behind its first (RFC 3629, 3)
abbrev pub is_inside_character : ℕ → Bool
is_inside_character b = nat_le 128 b && nat_lt b 192

-- a byte that is a whole character, takes a column and ends no line: ASCII from the space on
abbrev pub takes_column : ℕ → Bool
takes_column b = nat_le 32 b && nat_lt b 128

-- the place behind one byte before this rest: a line end begins the next row, a character takes a column
abbrev pub place_behind : Place → ℕ → List ℕ → Place
place_behind place b rest =
    if ends_line b rest then record { row = place.row + 1; column = 1 } else (
    if is_inside_character b then place else record { row = place.row; column = place.column + 1 })

-- the place behind so many bytes of a text that begins at this place
abbrev pub place_after : ℕ → Place → List ℕ → Place
place_after zero place text = place
place_after (suc n) place [] = place
place_after (suc n) place (b ∷ rest) = place_after n (place_behind place b rest) rest

-- the place of a byte of a text, by its number
abbrev pub place_in : List ℕ → ℕ → Place
place_in text at = place_after at first_place text
