-- Integers (GraphQL October 2021, 2.9.1). Floats are no part of this language.
use Rattle.std.specs.Prelude.{◌≡◌, ℕ, ℤ, pos, neg_ℤ, ◌+◌, ◌-◌, ◌*◌, ◌^◌, ◌==◌, ◌||◌, ◌&&◌, nat_lt, Bool, true, false, not, if◌then◌else◌, Option, Some, None, List, [], ◌∷◌, length, take, drop}
use Rattle.std.specs.List.{list_all, prefix_len}
use Rattle.gql_tokens.specs.Characters.{begins_with}
use Rattle.gql_tokens.specs.Names.{is_name_start, is_digit}

-- NegativeSign: `-`
abbrev pub has_sign : List ℕ → Bool
has_sign text = begins_with (45 ∷ []) text

-- what stands behind the sign, if there is one
abbrev pub unsigned_part : List ℕ → List ℕ
unsigned_part text = if has_sign text then drop 1 text else text

-- the number that digits spell, read on from a number
abbrev pub digits_after : ℕ → List ℕ → ℕ
digits_after n [] = n
digits_after n (d ∷ ds) = digits_after (n * 10 + (d - 48)) ds

-- the number that digits spell
abbrev pub digits_value : List ℕ → ℕ
digits_value digits = digits_after 0 digits

-- `0`, or a digit that isn't 0 and digits
abbrev pub is_whole : List ℕ → Bool
is_whole [] = false
is_whole (d ∷ ds) = is_digit d && list_all is_digit ds && (not (d == 48) || length ds == 0)

-- the number fits in 64 bits with its sign
abbrev pub is_within : Bool → ℕ → Bool
is_within negative n = nat_lt n (2 ^ 63) || (negative && n == 2 ^ 63)

-- IntValue: a sign or none, and `0` or a digit that isn't 0 and digits; the number fits in 64 bits
abbrev pub is_integer : List ℕ → Bool
is_integer text = is_whole (unsigned_part text) && is_within (has_sign text) (digits_value (unsigned_part text))

-- the text is an integer
abbrev pub IsInteger : List ℕ → Type 0
IsInteger text = is_integer text ≡ true

-- how many bytes the sign and the digits at the front take
abbrev pub number_len : List ℕ → ℕ
number_len text = (if has_sign text then 1 else 0) + prefix_len is_digit (unsigned_part text)

-- what may not stand behind an integer: a digit, `.` or a name start
abbrev pub continues_number : List ℕ → Bool
continues_number [] = false
continues_number (b ∷ rest) = is_digit b || b == 46 || is_name_start b

-- how long the integer at the front is, where nothing stands behind it that continues it
abbrev pub integer_len : List ℕ → Option ℕ
integer_len text =
    let n = number_len text in
    if is_integer (take n text) && not (continues_number (drop n text)) then Some n else None

-- a number with its sign
abbrev pub with_sign : Bool → ℕ → ℤ
with_sign negative n = if negative then neg_ℤ (pos n) else pos n

-- the number that the text of an integer spells
abbrev pub integer_value_of : List ℕ → ℤ
integer_value_of text = with_sign (has_sign text) (digits_value (unsigned_part text))
