-- What stands for a byte in a string is told from all that follows, so a quoted text is.
use Rattle.std.proofs.Common.{◌≡◌, ◌≢◌, ℕ, zero, suc, ◌+◌, ◌*◌, ◌-◌, ◌/◌, ◌%◌, ◌<◌, ◌≤◌, ◌==◌, Bool, true, false, ◌&&◌, if◌then◌else◌, nat_lt, codes, List, [], ◌∷◌, ◌++◌, drop, get_or, flat_map, inl, inr, refl, sym, ap, ◌∙◌, subst, arith, append_assoc, ne_eqb, true-eqb}
use Rattle.std.specs.Char.{digit_char}
use Rattle.std.proofs.lemmas.Bool.{and_parts, cases_lt, cases_eq}
use Rattle.std.proofs.lemmas.Bool.Decides.{nat_tests}
use Rattle.gql_value.specs.Text.{escaped_byte, quoted}
use Rattle.entity_keys.proofs.Splits.{heads, tails, conses}

-- the number of a hexadecimal digit
abbrev digit_of : ℕ → ℕ
digit_of d = if nat_lt d 58 then d - 48 else d - 87

-- the byte for which the letter behind a backslash stands
abbrev lettered : ℕ → ℕ
lettered k = if k == 98 then 8 else (if k == 102 then 12 else (if k == 110 then 10 else (if k == 114 then 13 else (if k == 116 then 9 else k))))

abbrev behind_slash : List ℕ → ℕ
behind_slash [] = 0
behind_slash (k ∷ t) = if k == 117 then digit_of (get_or t 2 0) * 16 + digit_of (get_or t 3 0) else lettered k

-- the byte for which the first code of a text stands
abbrev first_of : List ℕ → ℕ
first_of [] = 0
first_of (h ∷ t) = if h == 92 then behind_slash t else h

abbrev past_slash : List ℕ → List ℕ
past_slash [] = []
past_slash (k ∷ t) = if k == 117 then drop 4 t else t

-- what stands behind the first code
abbrev past_first : List ℕ → List ℕ
past_first [] = []
past_first (h ∷ t) = if h == 92 then past_slash t else t

-- a byte is read back from its code, whatever follows
abbrev IsReadBack : ℕ → Type 0
IsReadBack b = (x : List ℕ) → (first_of (escaped_byte b ++ x) ≡ b) × (past_first (escaped_byte b ++ x) ≡ x)

abbrev is_digits_number : ℕ → Bool
is_digits_number b = (digit_of (digit_char (b / 16)) * 16 + digit_of (digit_char (b % 16))) == b

-- so are all numbers below this one
abbrev are_digits_below : ℕ → Bool
are_digits_below zero = true
are_digits_below (suc n) = is_digits_number n && are_digits_below n

digits_at : (n : ℕ) → are_digits_below n ≡ true → (b : ℕ) → b < n → is_digits_number b ≡ true
digits_at zero e b h = absurd (omega arith)
digits_at (suc n) e b h =
    let parts = and_parts (is_digits_number n) (are_digits_below n) e in
    elim (cases_eq b n) [ inl same ↦ rw same parts.0 | inr other ↦ digits_at n parts.1 b (omega arith) ]

low_code : (b : ℕ) → b ≢ 34 → b ≢ 92 → b ≢ 8 → b ≢ 12 → b ≢ 10 → b ≢ 13 → b ≢ 9 → b < 32 → escaped_byte b ≡ codes "\\u00" ++ digit_char (b / 16) ∷ digit_char (b % 16) ∷ []
low_code b a c d e f g h low = grind (arith, nat_tests)

own_code : (b : ℕ) → b ≢ 34 → b ≢ 92 → 32 ≤ b → escaped_byte b ≡ b ∷ []
own_code b a c high = grind (arith, nat_tests)

no_slash : (b : ℕ) (x : List ℕ) → b ≢ 92 → (first_of (b ∷ x) ≡ b) × (past_first (b ∷ x) ≡ x)
no_slash b x n =
    let t : (b == 92) ≡ false = ne_eqb b 92 n in
    (rw t refl, rw t refl)

low_read : (b : ℕ) → b ≢ 34 → b ≢ 92 → b ≢ 8 → b ≢ 12 → b ≢ 10 → b ≢ 13 → b ≢ 9 → b < 32 → IsReadBack b
low_read b a c d e f g h low x =
    let code = low_code b a c d e f g h low in
    let number = true-eqb (digit_of (digit_char (b / 16)) * 16 + digit_of (digit_char (b % 16))) b (sym (digits_at 32 refl b low)) in
    (ap (λ t. first_of (t ++ x)) code ∙ number, ap (λ t. past_first (t ++ x)) code)

own_read : (b : ℕ) → b ≢ 34 → b ≢ 92 → 32 ≤ b → IsReadBack b
own_read b a c high x =
    let code = own_code b a c high in
    let own = no_slash b x c in
    (ap (λ t. first_of (t ++ x)) code ∙ own.0, ap (λ t. past_first (t ++ x)) code ∙ own.1)

-- a byte is read back where its number is this one, which is
one_read : (b c : ℕ) → b ≡ c → IsReadBack c → IsReadBack b
one_read b c e r = subst IsReadBack (sym e) r

unquoted_read : (b : ℕ) → b ≢ 34 → b ≢ 92 → IsReadBack b
unquoted_read b a c = elim (cases_lt b 32) [
  | inr high ↦ own_read b a c high
  | inl low ↦ elim (cases_eq b 8) [
    | inl s ↦ one_read b 8 s (λ x. (refl, refl))
    | inr d ↦ elim (cases_eq b 12) [
      | inl s ↦ one_read b 12 s (λ x. (refl, refl))
      | inr e ↦ elim (cases_eq b 10) [
        | inl s ↦ one_read b 10 s (λ x. (refl, refl))
        | inr f ↦ elim (cases_eq b 13) [
          | inl s ↦ one_read b 13 s (λ x. (refl, refl))
          | inr g ↦ elim (cases_eq b 9) [
            | inl s ↦ one_read b 9 s (λ x. (refl, refl))
            | inr h ↦ low_read b a c d e f g h low
          ]
        ]
      ]
    ]
  ]
]

read_back : (b : ℕ) → IsReadBack b
read_back b = elim (cases_eq b 34) [
  | inl s ↦ one_read b 34 s (λ x. (refl, refl))
  | inr a ↦ elim (cases_eq b 92) [
    | inl s ↦ one_read b 92 s (λ x. (refl, refl))
    | inr c ↦ unquoted_read b a c
  ]
]

codes_same : (b c : ℕ) (x y : List ℕ) → escaped_byte b ++ x ≡ escaped_byte c ++ y → (b ≡ c) × (x ≡ y)
codes_same b c x y e =
    let one = read_back b x in
    let other = read_back c y in
    (sym one.0 ∙ ap first_of e ∙ other.0, sym one.1 ∙ ap past_first e ∙ other.1)

-- no code begins with a quotation mark
no_mark : (b : ℕ) (x y : List ℕ) → escaped_byte b ++ x ≡ 34 ∷ y → ⊥
no_mark b x y e =
    let same : b ≡ 34 = sym (read_back b x).0 ∙ ap first_of e in
    let heads_same : ◌≡◌ {A = ℕ} 92 34 = heads 92 34 (34 ∷ x) y (subst (λ c. escaped_byte c ++ x ≡ 34 ∷ y) same e) in
    absurd cc

strings_same : (s t r q : List ℕ) → flat_map escaped_byte s ++ (34 ∷ r) ≡ flat_map escaped_byte t ++ (34 ∷ q) → (s ≡ t) × (r ≡ q)
strings_same [] [] r q e = (refl, tails 34 34 r q e)
strings_same [] (c ∷ t) r q e = absurd (no_mark c (flat_map escaped_byte t ++ (34 ∷ q)) r (sym (append_assoc (escaped_byte c) (flat_map escaped_byte t) (34 ∷ q)) ∙ sym e))
strings_same (b ∷ s) [] r q e = absurd (no_mark b (flat_map escaped_byte s ++ (34 ∷ r)) q (sym (append_assoc (escaped_byte b) (flat_map escaped_byte s) (34 ∷ r)) ∙ e))
strings_same (b ∷ s) (c ∷ t) r q e =
    let both = codes_same b c (flat_map escaped_byte s ++ (34 ∷ r)) (flat_map escaped_byte t ++ (34 ∷ q))
    (sym (append_assoc (escaped_byte b) (flat_map escaped_byte s) (34 ∷ r)) ∙ e ∙ append_assoc (escaped_byte c) (flat_map escaped_byte t) (34 ∷ q)) in
    let rest = strings_same s t r q both.1 in
    (conses b c s t both.0 rest.0, rest.1)

quoted_front : (s r : List ℕ) → quoted s ++ r ≡ 34 ∷ (flat_map escaped_byte s ++ (34 ∷ r))
quoted_front s r = ap (λ t. 34 ∷ t) (append_assoc (flat_map escaped_byte s) (34 ∷ []) r)

pub quoted_same : (s t r q : List ℕ) → quoted s ++ r ≡ quoted t ++ q → (s ≡ t) × (r ≡ q)
quoted_same s t r q e =
    strings_same s t r q (tails 34 34 (flat_map escaped_byte s ++ (34 ∷ r)) (flat_map escaped_byte t ++ (34 ∷ q)) (sym (quoted_front s r) ∙ e ∙ quoted_front t q))
