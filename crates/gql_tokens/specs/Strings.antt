-- Strings (GraphQL October 2021, 2.9.4).
use Rattle.std.specs.Prelude.{ℕ, ◌+◌, ◌-◌, ◌*◌, ◌==◌, ◌||◌, ◌&&◌, nat_lt, nat_le, Bool, if◌then◌else◌, Option, Some, None, List, [], ◌∷◌, length, drop, encode_utf8, codes, option_and_then, slice_index}
use Rattle.gql_tokens.specs.Characters.{begins_with, source_character, is_line_end}
use Rattle.gql_tokens.specs.Runs.{run}

-- the value of a hexadecimal digit, of either case
abbrev pub hex_digit : ℕ → Option ℕ
hex_digit b =
    if nat_le 48 b && nat_le b 57 then Some (b - 48) else (
    if nat_le 97 b && nat_le b 102 then Some (b - 87) else (
    if nat_le 65 b && nat_le b 70 then Some (b - 55) else None))

-- the number that four hexadecimal digits spell
abbrev pub four_digits : Option ℕ → Option ℕ → Option ℕ → Option ℕ → Option ℕ
four_digits (Some a) (Some b) (Some c) (Some d) = Some (a * 4096 + b * 256 + c * 16 + d)
four_digits _ _ _ _ = None

-- EscapedUnicode at the front: the code unit that `\u` and four hexadecimal digits spell
abbrev pub code_unit : List ℕ → Option ℕ
code_unit text =
    if begins_with (codes "\\u") text && nat_le 6 (length text)
    then four_digits (hex_digit (slice_index text 2)) (hex_digit (slice_index text 3)) (hex_digit (slice_index text 4)) (hex_digit (slice_index text 5))
    else None

-- the first code unit of a surrogate pair (Unicode, 3.8)
abbrev pub is_leading_surrogate : ℕ → Bool
is_leading_surrogate u = nat_le 0xD800 u && nat_lt u 0xDC00

-- the second code unit of a surrogate pair (Unicode, 3.8)
abbrev pub is_trailing_surrogate : ℕ → Bool
is_trailing_surrogate u = nat_le 0xDC00 u && nat_lt u 0xE000

-- the character of a surrogate pair (Unicode, 3.9)
abbrev pub paired : ℕ → ℕ → ℕ
paired leading trailing = 0x10000 + (leading - 0xD800) * 1024 + (trailing - 0xDC00)

-- a leading surrogate and what follows it: the pair is one character
abbrev pub pair_with : ℕ → Option ℕ → Option (List ℕ × ℕ)
pair_with leading None = None
pair_with leading (Some trailing) =
    if is_trailing_surrogate trailing then Some (encode_utf8 (paired leading trailing), 12) else None

-- a code unit, and the code unit that follows it: a surrogate alone is no character
abbrev pub unicode_escape : Option ℕ → Option ℕ → Option (List ℕ × ℕ)
unicode_escape None next = None
unicode_escape (Some unit) next =
    if is_leading_surrogate unit then pair_with unit next else (
    if is_trailing_surrogate unit then None else Some (encode_utf8 unit, 6))

-- EscapedCharacter: what a backslash before this byte means
abbrev pub escaped_character : ℕ → Option ℕ
escaped_character b =
    if b == 34 || b == 92 || b == 47 then Some b else (
    if b == 98 then Some 8 else (
    if b == 102 then Some 12 else (
    if b == 110 then Some 10 else (
    if b == 114 then Some 13 else (
    if b == 116 then Some 9 else None)))))

-- a backslash and one byte behind it
abbrev pub short_escape : List ℕ → Option (List ℕ × ℕ)
short_escape [] = None
short_escape (b ∷ rest) = option_and_then (λ c. Some (c ∷ [], 2)) (escaped_character b)

-- an escape at the front of a text that begins with a backslash
abbrev pub escape : List ℕ → Option (List ℕ × ℕ)
escape text =
    if begins_with (codes "\\u") text then unicode_escape (code_unit text) (code_unit (drop 6 text)) else short_escape (drop 1 text)

-- StringCharacter at the front: an escape, or a source character but `"`, backslash and line ends
abbrev pub string_character : List ℕ → Option (List ℕ × ℕ)
string_character [] = None
string_character (b ∷ rest) =
    if b == 92 then escape (b ∷ rest) else (
    if b == 34 || is_line_end b then None else source_character (b ∷ rest))

-- what stands behind the opening `"`: how long the string is with both marks, if it is closed
abbrev pub string_len : List ℕ → Option ℕ
string_len inner =
    let characters = (run string_character inner).1 in
    if begins_with (34 ∷ []) (drop characters inner) then Some (characters + 2) else None
