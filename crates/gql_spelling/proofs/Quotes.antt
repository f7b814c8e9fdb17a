-- Quoted texts at the front of a text lex to strings, and mean their texts.
use Rattle.std.proofs.Common.{◌≡◌, ◌≤◌, ◌<◌, ℕ, ◌+◌, ◌-◌, ◌*◌, ◌/◌, ◌%◌, ◌&&◌, ◌==◌, nat_lt, nat_le, Bool, true, false, cond, List, [], ◌∷◌, ◌++◌, length, drop, Option, Some, None, refl, sym, ap, subst, ◌∙◌, arith, codes, append_assoc, append-nil, length-append, IsUtf8}
use lib.Utf8.{encode, encodes, scalar, scalars}
use Rattle.std.specs.Prelude.{flat_map}
use Rattle.std.specs.Char.{digit_char}
use Rattle.std.proofs.Math.Seq.{take-append_seam, drop-append_seam}
use Rattle.std.proofs.lemmas.Grind.{flat_map-append}
use Rattle.std.proofs.lemmas.Bool.{eqb-true}
use Rattle.std.proofs.lemmas.Bool.Decides.{nat_tests}
use Rattle.std.proofs.lemmas.Str.{encode_ascii, IsUtf8-encode}
use Rattle.gql_value.specs.Text.{escaped_byte, quoted}
use Rattle.gql_tokens.specs.declared.token.Kind.TheVariants.{String}
use Rattle.gql_tokens.specs.Characters.{begins_with, is_source_byte, encoded_len, utf8_front, is_line_end}
use Rattle.gql_tokens.specs.Runs.{run}
use Rattle.gql_tokens.specs.Strings.{hex_digit, code_unit, is_leading_surrogate, is_trailing_surrogate, unicode_escape, string_character, string_len}
use Rattle.gql_tokens.specs.Blocks.{block_mark}
use Rattle.gql_tokens.specs.Lexemes.{ignored_len, token_at}
use Rattle.gql_tokens.specs.Tokens.{string_value_of}
use Rattle.gql_tokens.proofs.Choices.{choice}
use Rattle.gql_tokens.proofs.NameLaws.{both}
use Rattle.gql_tokens.proofs.CharacterLaws.{utf8_front_some}
use Rattle.gql_tokens.proofs.RunLaws.{run_value, run_len}
use Rattle.gql_spelling.specs.Spelling.{IsQuoted}
use Rattle.gql_spelling.proofs.Words.{Stops, FirstFails}

-- ---- hexadecimal digits

hex_low : (b : ℕ) → 48 ≤ b → b ≤ 57 → hex_digit b ≡ Some (b - 48)
hex_low b l h = let t : (nat_le 48 b && nat_le b 57) ≡ true = grind (arith, nat_tests) in rw t refl

hex_high : (b : ℕ) → 97 ≤ b → b ≤ 102 → hex_digit b ≡ Some (b - 87)
hex_high b l h =
    let f : (nat_le 48 b && nat_le b 57) ≡ false = grind (arith, nat_tests) in
    let t : (nat_le 97 b && nat_le b 102) ≡ true = grind (arith, nat_tests) in
    rw (f, t) refl

below : (d : ℕ) → nat_lt d 10 ≡ true → d < 10
below d t = grind (arith, nat_tests)

above : (d : ℕ) → nat_lt d 10 ≡ false → 10 ≤ d
above d f = grind (arith, nat_tests)

digit_reads : (d : ℕ) → d < 16 → hex_digit (digit_char d) ≡ Some d
digit_reads d h =
    choice (λ (x : ℕ). hex_digit x ≡ Some d) (nat_lt d 10) (48 + d) (87 + d)
    (λ t. let small = below d t in let e : (48 + d) - 48 ≡ d = omega arith in hex_low (48 + d) (omega arith) (omega arith) ∙ ap (λ (n : ℕ). Some n) e)
    (λ f. let large = above d f in let e : (87 + d) - 87 ≡ d = omega arith in hex_high (87 + d) (omega arith) (omega arith) ∙ ap (λ (n : ℕ). Some n) e)

-- ---- control characters

le_true : (n m : ℕ) → n ≤ m → nat_le n m ≡ true
le_true n m h = grind (arith, nat_tests)

unit_is : (x y : ℕ) (more : List ℕ) (p q : ℕ) → hex_digit x ≡ Some p → hex_digit y ≡ Some q
    → code_unit (92 ∷ 117 ∷ 48 ∷ 48 ∷ x ∷ y ∷ more) ≡ Some (0 * 4096 + 0 * 256 + p * 16 + q)
unit_is x y more p q ex ey =
    let long : nat_le 6 (length (92 ∷ 117 ∷ 48 ∷ 48 ∷ x ∷ y ∷ more)) ≡ true = le_true 6 (length (92 ∷ 117 ∷ 48 ∷ 48 ∷ x ∷ y ∷ more)) (omega arith) in
    rw (long, ex, ey) refl

small_unit : (b : ℕ) (next : Option ℕ) → b < 32 → unicode_escape (Some b) next ≡ Some (b ∷ [], 6)
small_unit b next h =
    let l : is_leading_surrogate b ≡ false = grind (arith, nat_tests) in
    let t : is_trailing_surrogate b ≡ false = grind (arith, nat_tests) in
    rw (l, t, encode_ascii b (omega arith)) refl

control_reads : (b : ℕ) (more : List ℕ) → b < 32 → string_character (92 ∷ 117 ∷ 48 ∷ 48 ∷ digit_char (b / 16) ∷ digit_char (b % 16) ∷ more) ≡ Some (b ∷ [], 6)
control_reads b more h =
    let unit = unit_is (digit_char (b / 16)) (digit_char (b % 16)) more (b / 16) (b % 16) (digit_reads (b / 16) (omega arith)) (digit_reads (b % 16) (omega arith)) in
    let same : 0 * 4096 + 0 * 256 + (b / 16) * 16 + (b % 16) ≡ b = omega arith in
    ap (λ (u : Option ℕ). unicode_escape u (code_unit more)) (unit ∙ ap (λ (n : ℕ). Some n) same) ∙ small_unit b (code_unit more) h

-- ---- characters that stand for themselves

source_reads : (b : ℕ) (rest more : List ℕ) → 32 ≤ b → (b == 34) ≡ false → (b == 92) ≡ false → encoded_len b ≡ length (b ∷ rest) → IsUtf8 (b ∷ rest)
    → string_character ((b ∷ rest) ++ more) ≡ Some (b ∷ rest, length (b ∷ rest))
source_reads b rest more l q s e u =
    let end : is_line_end b ≡ false = grind (arith, nat_tests) in
    let source : is_source_byte b ≡ true = grind (arith, nat_tests) in
    let inside : length (b ∷ rest) ≤ length ((b ∷ rest) ++ more) = omega (arith, length-append (b ∷ rest) more) in
    rw (s, q, end, source)
    (ap (λ (n : ℕ). utf8_front n ((b ∷ rest) ++ more)) e ∙ sym (utf8_front_some (length (b ∷ rest)) ((b ∷ rest) ++ more) (b ∷ rest) inside (sym (take-append_seam (b ∷ rest) more)) u))

pub ascii_text : (b : ℕ) → b < 128 → IsUtf8 (b ∷ [])
ascii_text b h = subst IsUtf8 (encode_ascii b h) (IsUtf8-encode b (scalar_ascii b h))
  where
    scalar_ascii : (b : ℕ) → b < 128 → scalar b ≡ true
    scalar_ascii b h = grind (arith, nat_tests)

short_len : (b : ℕ) → b < 128 → encoded_len b ≡ 1
short_len b h = let t : nat_lt b 128 ≡ true = grind (arith, nat_tests) in rw t refl

-- ---- each ASCII character, escaped or not

abbrev Reads : ℕ → List ℕ → List ℕ → Type 0
Reads b more e = (string_character (e ++ more) ≡ Some (b ∷ [], length e)) × (0 < length e)

at : (n b : ℕ) (more e : List ℕ) → (b == n) ≡ true → Reads n more e → Reads b more e
at n b more e t r = subst (λ (c : ℕ). Reads c more e) (sym (eqb-true b n t)) r

ascii_reads : (b : ℕ) (more : List ℕ) → b < 128 → Reads b more (escaped_byte b)
ascii_reads b more h =
    choice (Reads b more) (b == 34) (codes "\\\"") _ (λ t. at 34 b more (codes "\\\"") t (refl, omega arith)) (λ q.
    choice (Reads b more) (b == 92) (codes "\\\\") _ (λ t. at 92 b more (codes "\\\\") t (refl, omega arith)) (λ s.
    choice (Reads b more) (b == 8) (codes "\\b") _ (λ t. at 8 b more (codes "\\b") t (refl, omega arith)) (λ _.
    choice (Reads b more) (b == 12) (codes "\\f") _ (λ t. at 12 b more (codes "\\f") t (refl, omega arith)) (λ _.
    choice (Reads b more) (b == 10) (codes "\\n") _ (λ t. at 10 b more (codes "\\n") t (refl, omega arith)) (λ _.
    choice (Reads b more) (b == 13) (codes "\\r") _ (λ t. at 13 b more (codes "\\r") t (refl, omega arith)) (λ _.
    choice (Reads b more) (b == 9) (codes "\\t") _ (λ t. at 9 b more (codes "\\t") t (refl, omega arith)) (λ _.
    choice (Reads b more) (nat_lt b 32) (codes "\\u00" ++ digit_char (b / 16) ∷ digit_char (b % 16) ∷ []) (b ∷ [])
    (λ t. (control_reads b more (low b t), omega arith))
    (λ f. (source_reads b [] more (high b f) q s (short_len b h) (ascii_text b h), omega arith)))))))))
  where
    low : (b : ℕ) → nat_lt b 32 ≡ true → b < 32
    low b t = grind (arith, nat_tests)

    high : (b : ℕ) → nat_lt b 32 ≡ false → 32 ≤ b
    high b f = grind (arith, nat_tests)

-- ---- characters past ASCII

abbrev AllHigh : List ℕ → Type 0
AllHigh [] = Unit {0}
AllHigh (b ∷ bytes) = (128 ≤ b) × AllHigh bytes

plain_high : (b : ℕ) → 128 ≤ b → escaped_byte b ≡ b ∷ []
plain_high b h =
    let a1 : (b == 34) ≡ false = grind (arith, nat_tests) in
    let a2 : (b == 92) ≡ false = grind (arith, nat_tests) in
    let a3 : (b == 8) ≡ false = grind (arith, nat_tests) in
    let a4 : (b == 12) ≡ false = grind (arith, nat_tests) in
    let a5 : (b == 10) ≡ false = grind (arith, nat_tests) in
    let a6 : (b == 13) ≡ false = grind (arith, nat_tests) in
    let a7 : (b == 9) ≡ false = grind (arith, nat_tests) in
    let a8 : nat_lt b 32 ≡ false = grind (arith, nat_tests) in
    rw (a1, a2, a3, a4, a5, a6, a7, a8) refl

flat_high : (bytes : List ℕ) → AllHigh bytes → flat_map escaped_byte bytes ≡ bytes
flat_high [] h = refl
flat_high (b ∷ bytes) h = ap (λ (e : List ℕ). e ++ flat_map escaped_byte bytes) (plain_high b h.0) ∙ ap (λ (more : List ℕ). b ∷ more) (flat_high bytes h.1)

record Lead (c : ℕ) : Type 0 where
  first : ℕ
  rest : List ℕ
  is : encode c ≡ first ∷ rest
  all : AllHigh (first ∷ rest)
  long : encoded_len first ≡ length (first ∷ rest)

two_len : (b : ℕ) → 128 ≤ b → b < 224 → encoded_len b ≡ 2
two_len b l h = let f : nat_lt b 128 ≡ false = grind (arith, nat_tests) in let t : nat_lt b 224 ≡ true = grind (arith, nat_tests) in rw (f, t) refl

three_len : (b : ℕ) → 224 ≤ b → b < 240 → encoded_len b ≡ 3
three_len b l h = let f : nat_lt b 128 ≡ false = grind (arith, nat_tests) in let g : nat_lt b 224 ≡ false = grind (arith, nat_tests) in let t : nat_lt b 240 ≡ true = grind (arith, nat_tests) in rw (f, g, t) refl

four_len : (b : ℕ) → 240 ≤ b → encoded_len b ≡ 4
four_len b l = let f : nat_lt b 128 ≡ false = grind (arith, nat_tests) in let g : nat_lt b 224 ≡ false = grind (arith, nat_tests) in let t : nat_lt b 240 ≡ false = grind (arith, nat_tests) in rw (f, g, t) refl

two_bytes : (c : ℕ) → 128 ≤ c → c < 2048 → Lead c
unfolding encode
two_bytes c l h =
    let f : nat_lt c 128 ≡ false = grind (arith, nat_tests) in
    let t : nat_lt c 2048 ≡ true = grind (arith, nat_tests) in
    record { first = 192 + c / 64; rest = (128 + c % 64) ∷ []; is = rw (f, t) refl; all = (omega arith, (omega arith, tt)); long = two_len (192 + c / 64) (omega arith) (omega arith) }

three_bytes : (c : ℕ) → 2048 ≤ c → c < 65536 → Lead c
unfolding encode
three_bytes c l h =
    let f : nat_lt c 128 ≡ false = grind (arith, nat_tests) in
    let g : nat_lt c 2048 ≡ false = grind (arith, nat_tests) in
    let t : nat_lt c 65536 ≡ true = grind (arith, nat_tests) in
    record { first = 224 + c / 4096; rest = (128 + (c / 64) % 64) ∷ (128 + c % 64) ∷ []; is = rw (f, g, t) refl; all = (omega arith, (omega arith, (omega arith, tt))); long = three_len (224 + c / 4096) (omega arith) (omega arith) }

four_bytes : (c : ℕ) → 65536 ≤ c → Lead c
unfolding encode
four_bytes c l =
    let f : nat_lt c 128 ≡ false = grind (arith, nat_tests) in
    let g : nat_lt c 2048 ≡ false = grind (arith, nat_tests) in
    let t : nat_lt c 65536 ≡ false = grind (arith, nat_tests) in
    record { first = 240 + c / 262144; rest = (128 + (c / 4096) % 64) ∷ (128 + (c / 64) % 64) ∷ (128 + c % 64) ∷ []; is = rw (f, g, t) refl; all = (omega arith, (omega arith, (omega arith, (omega arith, tt)))); long = four_len (240 + c / 262144) (omega arith) }

lt_true : (a b : ℕ) → nat_lt a b ≡ true → a < b
lt_true a b t = grind (arith, nat_tests)

lt_false : (a b : ℕ) → nat_lt a b ≡ false → b ≤ a
lt_false a b f = grind (arith, nat_tests)

lead : (c : ℕ) → 128 ≤ c → Lead c
lead c h = by (nat_lt c 2048) refl (nat_lt c 65536) refl
  where
    by : (s : Bool) → nat_lt c 2048 ≡ s → (t : Bool) → nat_lt c 65536 ≡ t → Lead c
    by true es t et = two_bytes c h (lt_true c 2048 es)
    by false es true et = three_bytes c (lt_false c 2048 es) (lt_true c 65536 et)
    by false es false et = four_bytes c (lt_false c 65536 et)

-- ---- each character

abbrev CharacterReads : ℕ → List ℕ → Type 0
CharacterReads c more = (string_character (flat_map escaped_byte (encode c) ++ more) ≡ Some (encode c, length (flat_map escaped_byte (encode c)))) × (0 < length (flat_map escaped_byte (encode c)))

small_reads : (c : ℕ) (more : List ℕ) → c < 128 → CharacterReads c more
small_reads c more h =
    let whole : flat_map escaped_byte (encode c) ≡ escaped_byte c = ap (flat_map escaped_byte) (encode_ascii c h) ∙ append-nil (escaped_byte c) in
    let reads = ascii_reads c more h in (
      ap (λ (e : List ℕ). string_character (e ++ more)) whole ∙ reads.0 ∙ ap (λ (n : ℕ). Some (c ∷ [], n)) (sym (ap length whole)) ∙ ap (λ (v : List ℕ). Some (v, length (flat_map escaped_byte (encode c)))) (sym (encode_ascii c h)),
      subst (λ (e : List ℕ). 0 < length e) (sym whole) reads.1,
    )

large_reads : (c : ℕ) (more : List ℕ) → 128 ≤ c → scalar c ≡ true → CharacterReads c more
large_reads c more h s =
    let l = lead c h in
    let bytes = l.first ∷ l.rest in
    let q : (l.first == 34) ≡ false = not_quote l.first l.all.0 in
    let p : (l.first == 92) ≡ false = not_slash l.first l.all.0 in
    let high = l.all.0 in
    let u : IsUtf8 bytes = subst IsUtf8 l.is (IsUtf8-encode c s) in
    let reads = source_reads l.first l.rest more (omega arith) q p l.long u in
    let here : (string_character (flat_map escaped_byte bytes ++ more) ≡ Some (bytes, length (flat_map escaped_byte bytes))) × (0 < length (flat_map escaped_byte bytes))
    = (ap (λ (e : List ℕ). string_character (e ++ more)) (flat_high bytes l.all) ∙ reads ∙ ap (λ (e : List ℕ). Some (bytes, length e)) (sym (flat_high bytes l.all)), subst (λ (e : List ℕ). 0 < length e) (sym (flat_high bytes l.all)) (omega arith)) in
    subst (λ (v : List ℕ). (string_character (flat_map escaped_byte v ++ more) ≡ Some (v, length (flat_map escaped_byte v))) × (0 < length (flat_map escaped_byte v))) (sym l.is) here
  where
    not_quote : (b : ℕ) → 128 ≤ b → (b == 34) ≡ false
    not_quote b h = grind (arith, nat_tests)

    not_slash : (b : ℕ) → 128 ≤ b → (b == 92) ≡ false
    not_slash b h = grind (arith, nat_tests)

character_reads : (c : ℕ) (more : List ℕ) → scalar c ≡ true → CharacterReads c more
character_reads c more s = by (nat_lt c 128) refl
  where
    by : (t : Bool) → nat_lt c 128 ≡ t → CharacterReads c more
    by true e = small_reads c more (lt_true c 128 e)
    by false e = large_reads c more (lt_false c 128 e) s

-- ---- whole texts

step : (e v more : List ℕ) → string_character (e ++ more) ≡ Some (v, length e) → 0 < length e
    → ((run string_character (e ++ more)).0 ≡ v ++ (run string_character more).0) × ((run string_character (e ++ more)).1 ≡ length e + (run string_character more).1)
step e v more r s =
    let inside : length e ≤ length (e ++ more) = omega (arith, length-append e more) in
    let back : (run string_character (drop (length e) (e ++ more))) ≡ run string_character more = ap (run string_character) (drop-append_seam e more) in (
      run_value string_character (e ++ more) (v, length e) r s inside ∙ ap (λ (o : List ℕ × ℕ). v ++ o.0) back,
      run_len string_character (e ++ more) (v, length e) r s inside ∙ ap (λ (o : List ℕ × ℕ). length e + o.1) back,
    )

abbrev RunsTo : List ℕ → List ℕ → Type 0
RunsTo v back = ((run string_character (flat_map escaped_byte v ++ (34 ∷ back))).0 ≡ v) × ((run string_character (flat_map escaped_byte v ++ (34 ∷ back))).1 ≡ length (flat_map escaped_byte v))

characters_run : (cs back : List ℕ) → scalars cs ≡ true → RunsTo (encodes cs) back
characters_run [] back s = (refl, refl)
characters_run (c ∷ cs) back s =
    let parts = both (scalar c) (scalars cs) s in
    let e = flat_map escaped_byte (encode c) in
    let f = flat_map escaped_byte (encodes cs) in
    let more = characters_run cs back parts.1 in
    let reads = character_reads c (f ++ (34 ∷ back)) parts.0 in
    let here = step e (encode c) (f ++ (34 ∷ back)) reads.0 reads.1 in
    let whole : flat_map escaped_byte (encode c ++ encodes cs) ++ (34 ∷ back) ≡ e ++ (f ++ (34 ∷ back)) = ap (λ (t : List ℕ). t ++ (34 ∷ back)) (flat_map-append escaped_byte (encode c) (encodes cs)) ∙ append_assoc e f (34 ∷ back) in
    let count : length e + length f ≡ length (flat_map escaped_byte (encode c ++ encodes cs)) = sym (ap length (flat_map-append escaped_byte (encode c) (encodes cs)) ∙ length-append e f) in (
      ap (λ (t : List ℕ). (run string_character t).0) whole ∙ here.0 ∙ ap (λ (t : List ℕ). encode c ++ t) more.0,
      ap (λ (t : List ℕ). (run string_character t).1) whole ∙ here.1 ∙ ap (λ (n : ℕ). length e + n) more.1 ∙ count,
    )

quoted_run : (v back : List ℕ) → IsUtf8 v → RunsTo v back
quoted_run v back u = subst (λ (w : List ℕ). RunsTo w back) u.1.1 (characters_run u.0 back u.1.0)

-- ---- whole strings

abbrev is_quote : ℕ → Bool
is_quote b = 34 == b

other : (b : ℕ) → (b == 34) ≡ false → is_quote b ≡ false
other b h = grind (arith, nat_tests)

escape_first : (b : ℕ) (more : List ℕ) → FirstFails is_quote (escaped_byte b ++ more)
escape_first b more =
    choice First (b == 34) (codes "\\\"") _ (λ _. refl) (λ q.
    choice First (b == 92) (codes "\\\\") _ (λ _. refl) (λ _.
    choice First (b == 8) (codes "\\b") _ (λ _. refl) (λ _.
    choice First (b == 12) (codes "\\f") _ (λ _. refl) (λ _.
    choice First (b == 10) (codes "\\n") _ (λ _. refl) (λ _.
    choice First (b == 13) (codes "\\r") _ (λ _. refl) (λ _.
    choice First (b == 9) (codes "\\t") _ (λ _. refl) (λ _.
    choice First (nat_lt b 32) (codes "\\u00" ++ digit_char (b / 16) ∷ digit_char (b % 16) ∷ []) (b ∷ []) (λ _. refl) (λ _. other b q))))))))
  where
    First : List ℕ → Type 0
    First e = FirstFails is_quote (e ++ more)

first_no_quote : (v : List ℕ) → FirstFails is_quote (flat_map escaped_byte v)
first_no_quote [] = tt
first_no_quote (b ∷ v) = escape_first b (flat_map escaped_byte v)

no_mark : (f back : List ℕ) → FirstFails is_quote f → Stops String back → begins_with block_mark (34 ∷ (f ++ (34 ∷ back))) ≡ false
no_mark [] [] n s = refl
no_mark [] (b ∷ back) n s = rw (other b s.1.0) refl
no_mark (b ∷ f) back n s = rw n refl

string_len_is : (v back : List ℕ) → IsUtf8 v → string_len (flat_map escaped_byte v ++ (34 ∷ back)) ≡ Some (length (flat_map escaped_byte v) + 2)
string_len_is v back u =
    let f = flat_map escaped_byte v in
    let inner = f ++ (34 ∷ back) in
    subst (λ (n : ℕ). cond (begins_with (34 ∷ []) (drop n inner)) (Some (n + 2)) None ≡ Some (length f + 2)) (sym (quoted_run v back u).1)
    (closed (drop (length f) inner) (drop-append_seam f (34 ∷ back)))
  where
    closed : (behind : List ℕ) → behind ≡ 34 ∷ back → cond (begins_with (34 ∷ []) behind) (Some (length (flat_map escaped_byte v) + 2)) None ≡ Some (length (flat_map escaped_byte v) + 2)
    closed behind e = subst (λ (t : List ℕ). cond (begins_with (34 ∷ []) t) (Some (length (flat_map escaped_byte v) + 2)) None ≡ Some (length (flat_map escaped_byte v) + 2)) (sym e) refl

unmarked : (inner : List ℕ) (n : ℕ) → begins_with block_mark (34 ∷ inner) ≡ false → string_len inner ≡ Some n → token_at (34 ∷ inner) ≡ Some (String, n)
unmarked inner n m e = rw (m, e) refl

pub string_lexes : (text back : List ℕ) → IsQuoted text → Stops String back → (ignored_len (text ++ back) ≡ 0) × (token_at (text ++ back) ≡ Some (String, length text))
string_lexes text back q s =
    let v = q.0 in
    let f = flat_map escaped_byte v in
    let whole : text ++ back ≡ 34 ∷ (f ++ (34 ∷ back)) = ap (λ (t : List ℕ). t ++ back) q.1.1 ∙ ap (λ (t : List ℕ). 34 ∷ t) (append_assoc f (34 ∷ []) back) in
    let count : length f + 2 ≡ length text = sym (ap length q.1.1 ∙ quoted_len f) in (
      ap ignored_len whole,
      ap token_at whole ∙ unmarked (f ++ (34 ∷ back)) (length f + 2) (no_mark f back (first_no_quote v) s) (string_len_is v back q.1.0) ∙ ap (λ (n : ℕ). Some (String, n)) count,
    )
  where
    quoted_len : (f : List ℕ) → length (34 ∷ (f ++ (34 ∷ []))) ≡ length f + 2
    quoted_len f = omega (arith, length-append f (34 ∷ []))

pub quoted_value : (v : List ℕ) → IsUtf8 v → string_value_of (quoted v) ≡ v
quoted_value v u =
    plain (flat_map escaped_byte v ++ (34 ∷ [])) (no_mark (flat_map escaped_byte v) [] (first_no_quote v) tt) ∙ (quoted_run v [] u).0
  where
    plain : (inner : List ℕ) → begins_with block_mark (34 ∷ inner) ≡ false → string_value_of (34 ∷ inner) ≡ (run string_character inner).0
    plain inner m = rw m refl
