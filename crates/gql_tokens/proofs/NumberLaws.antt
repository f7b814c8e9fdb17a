-- The numbers that digits spell.
use Rattle.std.proofs.Common.{◌≡◌, ◌≤◌, ◌<◌, ℕ, zero, suc, ◌+◌, ◌-◌, ◌*◌, ◌^◌, Bool, true, false, cond, IsUtf8, List, [], ◌∷◌, length, drop, get_or, drop-cons, refl, sym, ◌∙◌, arith}
use Rattle.std.proofs.lemmas.Bool.{eqb-true}
use Rattle.std.proofs.lemmas.Bool.Decides.{nat_tests}
use Rattle.std.proofs.lemmas.Str.{IsUtf8-from_ascii}
use Rattle.std.specs.List.{list_all}
use Rattle.gql_tokens.specs.Names.{is_digit}
use Rattle.gql_tokens.proofs.NameLaws.{both}
use Rattle.gql_tokens.specs.Numbers.{is_whole, has_sign, unsigned_part, IsInteger, digits_after, digits_value}

-- digits never make a number smaller
pub digits_grow : (n : ℕ) (ds : List ℕ) → n ≤ digits_after n ds
digits_grow n [] = omega arith
digits_grow n (d ∷ ds) = let more = digits_grow (n * 10 + (d - 48)) ds in omega arith

turn : (n i : ℕ) (ds : List ℕ) → i < length ds → digits_after n (drop i ds) ≡ digits_after (n * 10 + (get_or ds i 0 - 48)) (drop (suc i) ds)
turn n i ds h = rw (drop-cons ds i 0) refl

pub too_large : (n i : ℕ) (ds : List ℕ) → i < length ds → 2 ^ 64 ≤ n * 10 + (get_or ds i 0 - 48) → digits_after n (drop i ds) ≡ digits_value ds → 2 ^ 64 ≤ digits_value ds
too_large n i ds h large e =
    let grown = digits_grow (n * 10 + (get_or ds i 0 - 48)) (drop (suc i) ds) in
    let same = sym (turn n i ds h) ∙ e in
    omega arith

-- ---- an integer's text is ASCII

digit_byte : (b : ℕ) → is_digit b ≡ true → b < 128
digit_byte b h = grind (arith, nat_tests)

digit_bytes : (text : List ℕ) → list_all is_digit text ≡ true → (i : ℕ) → get_or text i 0 < 128
digit_bytes [] h i = omega arith
digit_bytes (b ∷ rest) h zero = digit_byte b (both _ _ h).0
digit_bytes (b ∷ rest) h (suc i) = digit_bytes rest (both _ _ h).1 i

whole_bytes : (text : List ℕ) → is_whole text ≡ true → (i : ℕ) → get_or text i 0 < 128
whole_bytes [] h i = omega arith
whole_bytes (d ∷ ds) h zero = digit_byte d (both _ _ (both _ _ h).0).0
whole_bytes (d ∷ ds) h (suc i) = digit_bytes ds (both _ _ (both _ _ h).0).1 i

integer_bytes : (text : List ℕ) → is_whole (unsigned_part text) ≡ true → (i : ℕ) → get_or text i 0 < 128
integer_bytes [] h i = omega arith
integer_bytes (b ∷ rest) h i = signed (has_sign (b ∷ rest)) refl h i
  where
    signed : (s : Bool) → has_sign (b ∷ rest) ≡ s → is_whole (cond s (drop 1 (b ∷ rest)) (b ∷ rest)) ≡ true → (i : ℕ) → get_or (b ∷ rest) i 0 < 128
    signed true e h zero = let minus : 45 ≡ b = eqb-true 45 b (both _ _ e).0 in omega arith
    signed true e h (suc i) = whole_bytes rest h i
    signed false e h i = whole_bytes (b ∷ rest) h i

pub integer_is_text : (text : List ℕ) → IsInteger text → IsUtf8 text
integer_is_text text h = IsUtf8-from_ascii text (integer_bytes text (both _ _ h).0)
