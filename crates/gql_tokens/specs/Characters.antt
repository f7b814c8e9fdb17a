-- Source characters, white space and line ends (GraphQL October 2021, 2.1.1 to 2.1.3), over the bytes of a text.
use Rattle.std.specs.Prelude.{ℕ, ◌==◌, ◌||◌, ◌&&◌, nat_lt, nat_le, nat_eq, Bool, not, if◌then◌else◌, Option, Some, None, List, [], ◌∷◌, length, take}
use Rattle.std.specs.List.{starts_with}
use Rattle.std.specs.Str.{is_utf8}

-- the text begins with these bytes
abbrev pub begins_with : List ℕ → List ℕ → Bool
begins_with front text = starts_with nat_eq text front

-- a byte that begins a source character: tab, LF, CR, and all from the space on (2.1.1)
abbrev pub is_source_byte : ℕ → Bool
is_source_byte b = b == 9 || b == 10 || b == 13 || nat_le 32 b

-- how many bytes a character with this first byte takes (RFC 3629, 3)
abbrev pub encoded_len : ℕ → ℕ
encoded_len b = if nat_lt b 128 then 1 else (if nat_lt b 224 then 2 else (if nat_lt b 240 then 3 else 4))

-- the first bytes of a text, so many, and their number, if they are UTF-8
abbrev pub utf8_front : ℕ → List ℕ → Option (List ℕ × ℕ)
utf8_front n text = if nat_le n (length text) && is_utf8 (take n text) then Some (take n text, n) else None

-- SourceCharacter: the character at the front, itself and its length (2.1.1)
abbrev pub source_character : List ℕ → Option (List ℕ × ℕ)
source_character [] = None
source_character (b ∷ rest) = if is_source_byte b then utf8_front (encoded_len b) (b ∷ rest) else None

-- a byte that is a character wherever characters stand, and means itself: ASCII from the space on, but `"` and backslash
abbrev pub is_plain : ℕ → Bool
is_plain b = nat_le 32 b && nat_lt b 128 && not (b == 34) && not (b == 92)

-- WhiteSpace: tab and space (2.1.2)
abbrev pub is_white_space : ℕ → Bool
is_white_space b = b == 9 || b == 32

-- a byte of a LineTerminator: LF and CR (2.1.3)
abbrev pub is_line_end : ℕ → Bool
is_line_end b = b == 10 || b == 13

-- a line ends with this byte before this rest: at LF, and at CR that has no LF behind it (2.1.3)
abbrev pub ends_line : ℕ → List ℕ → Bool
ends_line b rest = b == 10 || (b == 13 && not (begins_with (10 ∷ []) rest))

-- LineTerminator: LF, CR LF together, or CR (2.1.3)
abbrev pub line_end_len : ℕ → List ℕ → ℕ
line_end_len b rest = if b == 13 && begins_with (10 ∷ []) rest then 2 else 1
