-- The compact text of a value: JSON (RFC 8259) with no space between tokens and the shortest escapes.
use Rattle.std.specs.Prelude.{◌≢◌, ℕ, ◌/◌, ◌%◌, ◌==◌, List, [], ◌∷◌, ◌++◌, if◌then◌else◌, nat_lt, flat_map, map, codes}
use Rattle.std.specs.Char.{digit_char}
use Rattle.std.specs.Fmt.{signed_decimal}
use Rattle.std.specs.List.{join_with_byte}
use Rattle.gql_value.specs.declared.value.Value.{Value, fold-Value}
use Rattle.gql_value.specs.declared.value.Value.TheOpen.{Value-F}

-- what stands in a string for one byte (RFC 8259, 7): quotation mark, backslash and control characters are escaped, the latter by a letter where they have one
abbrev pub escaped_byte : ℕ → List ℕ
escaped_byte b =
    if b == 34 then codes "\\\"" else (
    if b == 92 then codes "\\\\" else (
    if b == 8 then codes "\\b" else (
    if b == 12 then codes "\\f" else (
    if b == 10 then codes "\\n" else (
    if b == 13 then codes "\\r" else (
    if b == 9 then codes "\\t" else (
    if nat_lt b 32 then codes "\\u00" ++ digit_char (b / 16) ∷ digit_char (b % 16) ∷ [] else b ∷ [])))))))

-- this byte doesn't stand for itself in a string
abbrev pub IsEscaped : ℕ → Type 0
IsEscaped b = escaped_byte b ≢ b ∷ []

-- a text as a string, between its quotation marks (RFC 8259, 7)
abbrev pub quoted : List ℕ → List ℕ
quoted s = codes "\"" ++ flat_map escaped_byte s ++ codes "\""

-- pieces with a comma, which is byte 44, between
abbrev pub joined : List (List ℕ) → List ℕ
joined = join_with_byte 44

-- the texts of items as an array (RFC 8259, 5)
abbrev pub list_text : List (List ℕ) → List ℕ
list_text texts = codes "[" ++ joined texts ++ codes "]"

-- a name and the text of its value as a member (RFC 8259, 4)
abbrev pub member_text : List ℕ × List ℕ → List ℕ
member_text m = quoted m.0 ++ codes ":" ++ m.1

-- names and the texts of their values as an object, in their order (RFC 8259, 4)
abbrev pub object_text : List (List ℕ × List ℕ) → List ℕ
object_text members = codes "{" ++ joined (map member_text members) ++ codes "}"

-- the text of one level, where each value inside is its text already
abbrev pub text_step : Value-F (List ℕ) → List ℕ
text_step Value-F.Null = codes "null"
text_step (Value-F.Bool b) = if b then codes "true" else codes "false"
text_step (Value-F.Int n) = signed_decimal n
text_step (Value-F.Text s) = quoted s
text_step (Value-F.List texts) = list_text texts
text_step (Value-F.Obj members) = object_text members

-- the compact text of a value
abbrev pub text_of : Value → List ℕ
text_of = fold-Value (List ℕ) text_step
