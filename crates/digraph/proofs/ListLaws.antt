-- Nodes in lists.
use Rattle.std.proofs.Common.{◌≡◌, ℕ, zero, suc, ◌<◌, ◌≤◌, true, false, List, [], ◌∷◌, ◌++◌, length, take, get_or, refl, ap, sym, arith, ⊎_elim, ◌⊎◌, inl, inr, nat_eq, eq-eqb, Some, None, is_some, slice_get, unwrap_or}
use Rattle.std.proofs.lemmas.Bool.{false≢true, or_cases, or_left, or_right, eqb-true}
use Rattle.digraph.specs.Walks.{is_among}

none_some : {X : Type 0} {x : X} → None ≡ Some x → ⊥
none_some {x = x} h = absurd (false≢true (ap is_some h))

some_same : {x y : ℕ} → Some x ≡ Some y → x ≡ y
some_same {x = x} h = ap (λ o. unwrap_or o x) h

pub among_front : (b : ℕ) (xs ys : List ℕ) → is_among b xs ≡ true → is_among b (xs ++ ys) ≡ true
among_front b [] ys h = absurd (false≢true h)
among_front b (x ∷ xs) ys h =
    ⊎_elim (λ here. or_left (nat_eq b x) (is_among b (xs ++ ys)) here)
    (λ there. or_right (nat_eq b x) (is_among b (xs ++ ys)) (among_front b xs ys there))
    (or_cases (nat_eq b x) (is_among b xs) h)

pub among_back : (b : ℕ) (xs ys : List ℕ) → is_among b ys ≡ true → is_among b (xs ++ ys) ≡ true
among_back b [] ys h = h
among_back b (x ∷ xs) ys h = or_right (nat_eq b x) (is_among b (xs ++ ys)) (among_back b xs ys h)

pub among_either : (b : ℕ) (xs ys : List ℕ) → is_among b (xs ++ ys) ≡ true → (is_among b xs ≡ true) ⊎ (is_among b ys ≡ true)
among_either b [] ys h = inr h
among_either b (x ∷ xs) ys h =
    ⊎_elim (λ here. inl (or_left (nat_eq b x) (is_among b xs) here))
    (λ there. ⊎_elim (λ front. inl (or_right (nat_eq b x) (is_among b xs) front)) (λ back. inr back) (among_either b xs ys there))
    (or_cases (nat_eq b x) (is_among b (xs ++ ys)) h)

pub among_one : (b : ℕ) → is_among b (b ∷ []) ≡ true
among_one b = or_left (nat_eq b b) false (eq-eqb b b refl)

pub among_one_is : (b x : ℕ) → is_among b (x ∷ []) ≡ true → b ≡ x
among_one_is b x h = ⊎_elim (λ here. eqb-true b x here) (λ there. absurd (false≢true there)) (or_cases (nat_eq b x) false h)

-- one item more of a list
pub take_one_more : (xs : List ℕ) (i : ℕ) → i < length xs → take (suc i) xs ≡ take i xs ++ get_or xs i 0 ∷ []
take_one_more [] i l = absurd (omega arith)
take_one_more (x ∷ xs) zero l = refl
take_one_more (x ∷ xs) (suc i) l = ap (λ (ys : List ℕ). x ∷ ys) (take_one_more xs i (omega arith))

pub among_at : (xs : List ℕ) (i : ℕ) → i < length xs → is_among (get_or xs i 0) xs ≡ true
among_at [] i l = absurd (omega arith)
among_at (x ∷ xs) zero l = or_left (nat_eq x x) (is_among x xs) (eq-eqb x x refl)
among_at (x ∷ xs) (suc i) l = or_right (nat_eq (get_or xs i 0) x) (is_among (get_or xs i 0) xs) (among_at xs i (omega arith))

-- what stands at a place, or behind the end
pub got : (xs : List ℕ) (i x : ℕ) → slice_get xs i ≡ Some x → (i < length xs) × (x ≡ get_or xs i 0)
got [] i x h = absurd (none_some h)
got (y ∷ xs) zero x h = (omega arith, sym (some_same h))
got (y ∷ xs) (suc i) x h = let r = got xs i x h in (omega (arith, r.0), r.1)

pub got_none : (xs : List ℕ) (i : ℕ) → slice_get xs i ≡ None → length xs ≤ i
got_none [] i h = omega arith
got_none (y ∷ xs) zero h = absurd (none_some (sym h))
got_none (y ∷ xs) (suc i) h = let r = got_none xs i h in omega (arith, r)

pub past : {X : Type 0} (xs : List X) (i : ℕ) (d : X) → slice_get xs i ≡ None → get_or xs i d ≡ d
past [] i d h = refl
past (y ∷ xs) zero d h = absurd (none_some (sym h))
past (y ∷ xs) (suc i) d h = past xs i d h
