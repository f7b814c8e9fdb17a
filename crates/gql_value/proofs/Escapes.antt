-- A quoted text is UTF-8 where the text is.
use Rattle.std.proofs.Common.{◌≡◌, ℕ, zero, suc, ◌<◌, ◌≤◌, Bool, true, ◌&&◌, nat_lt, List, [], ◌∷◌, ◌++◌, length, get_or, flat_map, IsUtf8, inl, inr, refl, sym, ap₂, subst, arith, append-nil, ltb-true}
use Rattle.std.proofs.lemmas.Bool.{and_parts, cases_lt, cases_eq}
use Rattle.std.proofs.lemmas.Bool.Decides.{nat_tests}
use Rattle.std.proofs.lemmas.Grind.{flat_map-append}
use Rattle.std.proofs.lemmas.Str.{IsUtf8-append, IsUtf8-nil, IsUtf8-encode, encode_ascii, inside_one}
use lib.Utf8.{scalar, scalars, encode, encodes, low_scalar}
use Rattle.gql_value.specs.Text.{escaped_byte, quoted}

-- whether all are ASCII
abbrev pub all_ascii : List ℕ → Bool
all_ascii [] = true
all_ascii (b ∷ bs) = nat_lt b 128 && all_ascii bs

pub IsUtf8-all_ascii : (bs : List ℕ) → all_ascii bs ≡ true → IsUtf8 bs
IsUtf8-all_ascii [] e = IsUtf8-nil
IsUtf8-all_ascii (b ∷ bs) e =
    let parts = and_parts _ _ e in
    let small : b < 128 = ltb-true _ _ parts.0 in
    IsUtf8-append (b ∷ []) bs (subst IsUtf8 (encode_ascii b small) (IsUtf8-encode b (low_scalar b (omega arith)))) (IsUtf8-all_ascii bs parts.1)

-- whether what stands for each byte below this one is ASCII
abbrev ascii_below : ℕ → Bool
ascii_below zero = true
ascii_below (suc n) = all_ascii (escaped_byte n) && ascii_below n

ascii_at : (n : ℕ) → ascii_below n ≡ true → (b : ℕ) → b < n → all_ascii (escaped_byte b) ≡ true
ascii_at zero e b h = absurd (omega arith)
ascii_at (suc n) e b h =
    let parts = and_parts _ _ e in
    elim (cases_eq b n) [ inl same ↦ rw same parts.0 | inr other ↦ ascii_at n parts.1 b (omega arith) ]

escaped_high : (b : ℕ) → 128 ≤ b → escaped_byte b ≡ b ∷ []
escaped_high b high = grind (arith, nat_tests)

flat_map-escaped_high : (bs : List ℕ) → ((k : ℕ) → k < length bs → 128 ≤ get_or bs k 0) → flat_map escaped_byte bs ≡ bs
flat_map-escaped_high [] high = refl
flat_map-escaped_high (b ∷ bs) high =
    ap₂ (λ (front rest : List ℕ). front ++ rest) (escaped_high b (high 0 (omega arith))) (flat_map-escaped_high bs (λ k below. high (suc k) (omega arith)))

escaped_char : (c : ℕ) → scalar c ≡ true → IsUtf8 (flat_map escaped_byte (encode c))
escaped_char c ok = elim (cases_lt c 128) [
  | inl small ↦ rw (encode_ascii c small, append-nil) (IsUtf8-all_ascii _ (ascii_at 128 refl c small))
  | inr big ↦
      let high : (k : ℕ) → k < length (encode c) → 128 ≤ get_or (encode c) k 0 = λ k below. elim (cases_lt (get_or (encode c) k 0) 128) [
        | inl low ↦ absurd (omega (arith, inside_one c [] (encode c) k (sym (append-nil _)) below low))
        | inr h ↦ h
      ] in
      subst IsUtf8 (sym (flat_map-escaped_high (encode c) high)) (IsUtf8-encode c ok)
]

escaped_chars : (cs : List ℕ) → scalars cs ≡ true → IsUtf8 (flat_map escaped_byte (encodes cs))
escaped_chars [] e = IsUtf8-nil
escaped_chars (c ∷ cs) e =
    let parts = and_parts _ _ e in
    subst IsUtf8 (sym (flat_map-append escaped_byte (encode c) (encodes cs))) (IsUtf8-append _ _ (escaped_char c parts.0) (escaped_chars cs parts.1))

pub IsUtf8-quoted : (s : List ℕ) → IsUtf8 s → IsUtf8 (quoted s)
IsUtf8-quoted s u =
    IsUtf8-append _ _ (IsUtf8-append (34 ∷ []) _ (IsUtf8-all_ascii (34 ∷ []) refl) (subst (λ l. IsUtf8 (flat_map escaped_byte l)) u.1.1 (escaped_chars u.0 u.1.0))) (IsUtf8-all_ascii (34 ∷ []) refl)
