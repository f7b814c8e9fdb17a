-- What strings mean is text.
use Rattle.std.proofs.Common.{◌≡◌, ◌≤◌, ◌<◌, ℕ, zero, suc, ◌+◌, ◌-◌, ◌*◌, ◌&&◌, ◌||◌, ◌==◌, nat_le, true, List, [], ◌∷◌, length, take, drop, Option, Some, None, refl, subst, arith, codes, slice_index, IsUtf8}
use lib.Utf8.{encode, scalar}
use Rattle.std.specs.Option.{option_and_then}
use Rattle.std.specs.Str.{is_utf8}
use Rattle.std.specs.Char.{IsScalar}
use Rattle.std.proofs.lemmas.Bool.Decides.{nat_tests}
use Rattle.std.proofs.lemmas.Str.{IsUtf8-encode, IsUtf8-nil, IsUtf8-append, IsUtf8-from_is_utf8}
use Rattle.gql_tokens.specs.Characters.{begins_with, is_source_byte, encoded_len, utf8_front, source_character, is_line_end}
use Rattle.gql_tokens.specs.Runs.{Rule, run, run_on, run_behind}
use Rattle.gql_tokens.specs.Strings.{hex_digit, four_digits, code_unit, is_leading_surrogate, is_trailing_surrogate, paired, pair_with, unicode_escape, escaped_character, short_escape, escape, string_character}
use Rattle.gql_tokens.specs.Blocks.{block_mark, block_character, block_value_of}
use Rattle.gql_tokens.specs.Tokens.{string_value_of}
use Rattle.gql_tokens.proofs.Choices.{choice}
use Rattle.gql_tokens.proofs.NameLaws.{both}
use Rattle.gql_tokens.proofs.StringLaws.{whole_unit}
use Rattle.gql_tokens.proofs.BlockTextLaws.{block_text}
use Rattle.gql_spelling.proofs.Quotes.{ascii_text}

-- each meaning of a rule is text
abbrev Means : Option (List ℕ × ℕ) → Type 0
Means o = (c : List ℕ × ℕ) → o ≡ Some c → IsUtf8 c.0

abbrev IsTextRule : Rule → Type 0
IsTextRule rule = (text : List ℕ) → Means (rule text)

nothing : Means None
nothing c e = absurd cc

meant : (bytes : List ℕ) (n : ℕ) → IsUtf8 bytes → Means (Some (bytes, n))
meant bytes n u c e = let same : (bytes, n) ≡ c = cc in subst (λ (d : List ℕ × ℕ). IsUtf8 d.0) same u

run_on_text : (o : Option (List ℕ × ℕ)) (others : ℕ → List ℕ × ℕ) → Means o → ((k : ℕ) → IsUtf8 (others k).0) → IsUtf8 (run_on others o).0
run_on_text None others m h = IsUtf8-nil
run_on_text (Some c) others m h = IsUtf8-append c.0 (others (c.1 - 1)).0 (m c refl) (h (c.1 - 1))

run_behind_text : (rule : Rule) → IsTextRule rule → (k : ℕ) (text : List ℕ) → IsUtf8 (run_behind rule k text).0
run_behind_text rule m zero [] = IsUtf8-nil
run_behind_text rule m (suc k) [] = IsUtf8-nil
run_behind_text rule m (suc k) (b ∷ rest) = run_behind_text rule m k rest
run_behind_text rule m zero (b ∷ rest) = run_on_text (rule (b ∷ rest)) (λ left. run_behind rule left rest) (m (b ∷ rest)) (λ k. run_behind_text rule m k rest)

-- ---- source characters

front_text : (n : ℕ) (text : List ℕ) → Means (utf8_front n text)
front_text n text =
    choice Means (nat_le n (length text) && is_utf8 (take n text)) (Some (take n text, n)) None
    (λ h. meant (take n text) n (IsUtf8-from_is_utf8 (take n text) (both (nat_le n (length text)) (is_utf8 (take n text)) h).1))
    (λ _. nothing)

source_text : (text : List ℕ) → Means (source_character text)
source_text [] = nothing
source_text (b ∷ rest) = choice Means (is_source_byte b) (utf8_front (encoded_len b) (b ∷ rest)) None (λ _. front_text (encoded_len b) (b ∷ rest)) (λ _. nothing)

-- ---- escapes

abbrev Below : ℕ → Option ℕ → Type 0
Below most o = (n : ℕ) → o ≡ Some n → n < most

digit_below : (b : ℕ) → Below 16 (hex_digit b)
digit_below b =
    choice (Below 16) (nat_le 48 b && nat_le b 57) (Some (b - 48)) _ (λ h. this (b - 48) (low b h)) (λ _.
    choice (Below 16) (nat_le 97 b && nat_le b 102) (Some (b - 87)) _ (λ h. this (b - 87) (small b h)) (λ _.
    choice (Below 16) (nat_le 65 b && nat_le b 70) (Some (b - 55)) None (λ h. this (b - 55) (large b h)) (λ _. none)))
  where
    this : (d : ℕ) → d < 16 → Below 16 (Some d)
    this d h n e = let same : d ≡ n = cc in omega arith

    none : Below 16 None
    none n e = absurd cc

    low : (b : ℕ) → (nat_le 48 b && nat_le b 57) ≡ true → b - 48 < 16
    low b h = grind (arith, nat_tests)

    small : (b : ℕ) → (nat_le 97 b && nat_le b 102) ≡ true → b - 87 < 16
    small b h = grind (arith, nat_tests)

    large : (b : ℕ) → (nat_le 65 b && nat_le b 70) ≡ true → b - 55 < 16
    large b h = grind (arith, nat_tests)

four_below : (a b c d : Option ℕ) → Below 16 a → Below 16 b → Below 16 c → Below 16 d → Below 65536 (four_digits a b c d)
four_below (Some a) (Some b) (Some c) (Some d) ha hb hc hd n e =
    let same : a * 4096 + b * 256 + c * 16 + d ≡ n = cc in
    let la = ha a refl in
    let lb = hb b refl in
    let lc = hc c refl in
    let ld = hd d refl in
    omega arith
four_below None b c d ha hb hc hd n e = absurd cc
four_below (Some a) None c d ha hb hc hd n e = absurd cc
four_below (Some a) (Some b) None d ha hb hc hd n e = absurd cc
four_below (Some a) (Some b) (Some c) None ha hb hc hd n e = absurd cc

unit_below : (text : List ℕ) → Below 65536 (code_unit text)
unit_below text =
    choice (Below 65536) (begins_with (codes "\\u") text && nat_le 6 (length text)) (four_digits (hex_digit (slice_index text 2)) (hex_digit (slice_index text 3)) (hex_digit (slice_index text 4)) (hex_digit (slice_index text 5))) None
    (λ _. four_below _ _ _ _ (digit_below (slice_index text 2)) (digit_below (slice_index text 3)) (digit_below (slice_index text 4)) (digit_below (slice_index text 5)))
    (λ _ n e. absurd cc)

pair_scalar : (l t : ℕ) → is_leading_surrogate l ≡ true → is_trailing_surrogate t ≡ true → IsScalar (paired l t)
pair_scalar l t a b =
    let la : (55296 ≤ l) × (l < 56320) = leads l a in
    let lt : (56320 ≤ t) × (t < 57344) = trails t b in
    scalar_between (paired l t) (omega arith) (omega arith)
  where
    leads : (l : ℕ) → is_leading_surrogate l ≡ true → (55296 ≤ l) × (l < 56320)
    leads l a = (grind (arith, nat_tests), grind (arith, nat_tests))

    trails : (t : ℕ) → is_trailing_surrogate t ≡ true → (56320 ≤ t) × (t < 57344)
    trails t b = (grind (arith, nat_tests), grind (arith, nat_tests))

    scalar_between : (c : ℕ) → 65536 ≤ c → c < 1114112 → scalar c ≡ true
    scalar_between c l h = grind (arith, nat_tests)

pair_text : (unit : ℕ) (next : Option ℕ) → is_leading_surrogate unit ≡ true → Means (pair_with unit next)
pair_text unit None l = nothing
pair_text unit (Some t) l = choice Means (is_trailing_surrogate t) (Some (encode (paired unit t), 12)) None (λ h. meant (encode (paired unit t)) 12 (IsUtf8-encode (paired unit t) (pair_scalar unit t l h))) (λ _. nothing)

unicode_text : (unit next : Option ℕ) → Below 65536 unit → Means (unicode_escape unit next)
unicode_text None next b = nothing
unicode_text (Some u) next b =
    choice Means (is_leading_surrogate u) (pair_with u next) _ (λ l. pair_text u next l) (λ l.
    choice Means (is_trailing_surrogate u) None (Some (encode u, 6)) (λ _. nothing) (λ t. meant (encode u) 6 (IsUtf8-encode u (whole_unit u (b u refl) l t))))

short_text : (text : List ℕ) → Means (short_escape text)
short_text [] = nothing
short_text (b ∷ rest) = letter (escaped_character b) (escaped_below b)
  where
    letter : (o : Option ℕ) → Below 128 o → Means (option_and_then (λ c. Some (c ∷ [], 2)) o)
    letter None h = nothing
    letter (Some c) h = meant (c ∷ []) 2 (ascii_text c (h c refl))

    this : (d : ℕ) → d < 128 → Below 128 (Some d)
    this d h n e = let same : d ≡ n = cc in omega arith

    none : Below 128 None
    none n e = absurd cc

    own : (b : ℕ) → (b == 34 || b == 92 || b == 47) ≡ true → b < 128
    own b h = grind (arith, nat_tests)

    escaped_below : (b : ℕ) → Below 128 (escaped_character b)
    escaped_below b =
        choice (Below 128) (b == 34 || b == 92 || b == 47) (Some b) _ (λ h. this b (own b h)) (λ _.
        choice (Below 128) (b == 98) (Some 8) _ (λ _. this 8 (omega arith)) (λ _.
        choice (Below 128) (b == 102) (Some 12) _ (λ _. this 12 (omega arith)) (λ _.
        choice (Below 128) (b == 110) (Some 10) _ (λ _. this 10 (omega arith)) (λ _.
        choice (Below 128) (b == 114) (Some 13) _ (λ _. this 13 (omega arith)) (λ _.
        choice (Below 128) (b == 116) (Some 9) None (λ _. this 9 (omega arith)) (λ _. none))))))

string_text : (text : List ℕ) → Means (string_character text)
string_text [] = nothing
string_text (b ∷ rest) =
    choice Means (b == 92) (escape (b ∷ rest)) _
    (λ _. choice Means (begins_with (codes "\\u") (b ∷ rest)) (unicode_escape (code_unit (b ∷ rest)) (code_unit (drop 6 (b ∷ rest)))) (short_escape rest)
    (λ _. unicode_text (code_unit (b ∷ rest)) (code_unit (drop 6 (b ∷ rest))) (unit_below (b ∷ rest)))
    (λ _. short_text rest))
    (λ _. choice Means (b == 34 || is_line_end b) None (source_character (b ∷ rest)) (λ _. nothing) (λ _. source_text (b ∷ rest)))

mark_text : IsUtf8 block_mark
mark_text = IsUtf8-append (34 ∷ []) (34 ∷ 34 ∷ []) (ascii_text 34 (omega arith)) (IsUtf8-append (34 ∷ []) (34 ∷ []) (ascii_text 34 (omega arith)) (ascii_text 34 (omega arith)))

block_rule : (text : List ℕ) → Means (block_character text)
block_rule text =
    choice Means (begins_with (92 ∷ block_mark) text) (Some (block_mark, 4)) _ (λ _. meant block_mark 4 mark_text)
    (λ _. choice Means (begins_with block_mark text) None (source_character text) (λ _. nothing) (λ _. source_text text))

pub value_text : (text : List ℕ) → IsUtf8 (string_value_of text)
value_text text =
    choice IsUtf8 (begins_with block_mark text) (block_value_of (run block_character (drop 3 text)).0) (run string_character (drop 1 text)).0
    (λ _. block_text (run block_character (drop 3 text)).0 (run_behind_text block_character block_rule 0 (drop 3 text)))
    (λ _. run_behind_text string_character string_text 0 (drop 1 text))
