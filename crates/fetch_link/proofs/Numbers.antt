-- Numbers that digits write, up to a limit.
use Rattle.std.proofs.Common.{◌≡◌, ℕ, zero, suc, ◌+◌, ◌-◌, ◌*◌, ◌<◌, ◌≤◌, Bool, true, List, [], ◌∷◌, length, take, get_or, min, inl, inr, ap, sym, ◌∙◌, arith}
use Rattle.std.proofs.Math.Nat.{min-eq_left, min-eq_right}
use Rattle.std.proofs.lemmas.Bool.{and_parts, cases_lt}
use Rattle.std.proofs.lemmas.Bool.Decides.{nat_tests}
use Rattle.std.proofs.lemmas.Int.Digits.{digits_value_more}
use Rattle.std.specs.List.{list_all}
use Rattle.std.specs.Char.{is_ascii_digit, digit_value}
use Rattle.std.specs.Str.Parse.{digits_value}

-- each passes a test that all pass
pub list_all-at : {X : Type 0} (p : X → Bool) (xs : List X) (i : ℕ) (x : X) → list_all p xs ≡ true → i < length xs → p (get_or xs i x) ≡ true
list_all-at p [] i x all h = absurd (omega arith)
list_all-at p (y ∷ xs) zero x all h = (and_parts _ _ all).0
list_all-at p (y ∷ xs) (suc i) x all h = list_all-at p xs i x (and_parts _ _ all).1 (omega arith)

-- what a digit is worth
pub digit_value-digit : (c : ℕ) → is_ascii_digit c ≡ true → (48 ≤ c) × (c ≤ 57) × (digit_value c ≡ c - 48)
digit_value-digit c digit = grind (arith, nat_tests)

-- one more digit behind a number that was cut to the limit
pub min-digit : (n d limit : ℕ) → min (min n limit * 10 + d) limit ≡ min (n * 10 + d) limit
min-digit n d limit = elim (cases_lt n limit) [
  | inl small ↦ ap (λ m. min (m * 10 + d) limit) (min-eq_left (omega arith))
  | inr large ↦ ap (λ m. min (m * 10 + d) limit) (min-eq_right large) ∙ min-eq_right (omega arith) ∙ sym (min-eq_right (omega arith))
]

-- one more digit
pub digits_value-take : (ds : List ℕ) (i limit value : ℕ) → list_all is_ascii_digit ds ≡ true → i < length ds → value ≡ min (digits_value 10 (take i ds)) limit
    → min (value * 10 + (get_or ds i 0 - 48)) limit ≡ min (digits_value 10 (take (i + 1) ds)) limit
digits_value-take ds i limit value all h is =
    let c = get_or ds i 0 in
    let worth = digit_value-digit c (list_all-at is_ascii_digit ds i 0 all h) in
    ap (λ d. min (value * 10 + d) limit) (sym worth.2)
    ∙ ap (λ v. min (v * 10 + digit_value c) limit) is
    ∙ min-digit (digits_value 10 (take i ds)) (digit_value c) limit
    ∙ ap (λ v. min v limit) (sym (digits_value_more 10 ds i h))
