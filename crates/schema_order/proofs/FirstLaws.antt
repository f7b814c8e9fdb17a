-- The first value that a list gives, where at most one of its items gives one.
use Rattle.std.proofs.Common.{◌≡◌, ℕ, zero, suc, ◌+◌, ◌≤◌, Bool, cond, List, [], ◌∷◌, refl, sym, ap, ◌∙◌, ◌⊎◌, inl, inr, ⊎_elim, arith, Option, Some, None, is_some, unwrap_or}
use Rattle.std.specs.Option.{option_or}
use Rattle.std.specs.List.{All, AllByRecursion, count_by}
use Rattle.std.specs.List.Sorted.{IsPermutation}
use Rattle.std.proofs.lemmas.Bool.{false≢true}
use Rattle.std.proofs.lemmas.List.Sums.{sum_by-cons}
use Rattle.std.proofs.lemmas.List.Sorted.{All-permutation, sum_by-IsPermutation}

abbrev pub tick : Bool → ℕ
tick b = cond b 1 0

module _ {X V : Type 0} (f : X → Option V) where
  abbrev pub first : List X → Option V
  first [] = None
  first (x ∷ xs) = option_or (f x) (first xs)

  -- how many items give a value
  abbrev pub count : List X → ℕ
  count xs = count_by (λ x. is_some (f x)) xs

  count_none : (x : X) (xs : List X) → f x ≡ None → count (x ∷ xs) ≡ count xs
  count_none x xs is =
      let e : count (x ∷ xs) ≡ tick (is_some (f x)) + count xs = sum_by-cons (λ y. tick (is_some (f y))) x xs in
      let z : tick (is_some (f x)) ≡ 0 = ap (λ (o : Option V). tick (is_some o)) is in
      omega arith

  count_some : (x : X) (xs : List X) (v : V) → f x ≡ Some v → count (x ∷ xs) ≡ 1 + count xs
  count_some x xs v is =
      let e : count (x ∷ xs) ≡ tick (is_some (f x)) + count xs = sum_by-cons (λ y. tick (is_some (f y))) x xs in
      let z : tick (is_some (f x)) ≡ 1 = ap (λ (o : Option V). tick (is_some o)) is in
      omega arith

  first_none : (x : X) (xs : List X) → f x ≡ None → first (x ∷ xs) ≡ first xs
  first_none x xs is = ap (λ (o : Option V). option_or o (first xs)) is

  first_some : (x : X) (xs : List X) (v : V) → f x ≡ Some v → first (x ∷ xs) ≡ Some v
  first_some x xs v is = ap (λ (o : Option V). option_or o (first xs)) is

-- an item gives a value or none
pub cases : {V : Type 0} (o : Option V) → (o ≡ None) ⊎ ((v : V) × (o ≡ Some v))
cases None = inl refl
cases (Some v) = inr (v, refl)

pub none_some : {V : Type 0} (v : V) → Some v ≡ None → ⊥
none_some v e = absurd (false≢true (sym (ap is_some e)))

pub same_some : {V : Type 0} (v w : V) → Some v ≡ Some w → v ≡ w
same_some v w e = ap (λ o. unwrap_or o v) e

module _ {X V : Type 0} (f : X → Option V) where
  none_counted : (xs : List X) → count f xs ≡ 0 → first f xs ≡ None
  none_counted [] c = refl
  none_counted (x ∷ xs) c =
      ⊎_elim
      (λ is. first_none f x xs is ∙ none_counted xs (sym (count_none f x xs is) ∙ c))
      (λ v. let e = count_some f x xs v.0 v.1 in absurd (omega arith))
      (cases (f x))

  some_counted : (xs : List X) (v : V) → first f xs ≡ Some v → 1 ≤ count f xs
  some_counted [] v is = absurd (none_some v (sym is))
  some_counted (x ∷ xs) v is =
      ⊎_elim
      (λ none. let e = count_none f x xs none in let h = some_counted xs v (sym (first_none f x xs none) ∙ is) in omega arith)
      (λ w. let e = count_some f x xs w.0 w.1 in omega arith)
      (cases (f x))

  no_first : (xs : List X) → first f xs ≡ None → count f xs ≡ 0
  no_first [] is = refl
  no_first (x ∷ xs) is =
      ⊎_elim
      (λ none. count_none f x xs none ∙ no_first xs (sym (first_none f x xs none) ∙ is))
      (λ w. absurd (none_some w.0 (sym (first_some f x xs w.0 w.1) ∙ is)))
      (cases (f x))

  -- each item gives this value or none
  abbrev pub IsOne : V → X → Type 0
  IsOne v x = (f x ≡ None) ⊎ (f x ≡ Some v)

  all_none : (xs : List X) (v : V) → count f xs ≡ 0 → AllByRecursion (IsOne v) xs
  all_none [] v c = tt
  all_none (x ∷ xs) v c =
      ⊎_elim
      (λ none. (inl none, all_none xs v (sym (count_none f x xs none) ∙ c)))
      (λ w. let e = count_some f x xs w.0 w.1 in absurd (omega arith))
      (cases (f x))

  all_one : (xs : List X) (v : V) → count f xs ≤ 1 → first f xs ≡ Some v → AllByRecursion (IsOne v) xs
  all_one [] v c is = tt
  all_one (x ∷ xs) v c is =
      ⊎_elim
      (λ none. let e = count_none f x xs none in (inl none, all_one xs v (omega arith) (sym (first_none f x xs none) ∙ is)))
      (λ w. let e = count_some f x xs w.0 w.1 in
      let same : w.0 ≡ v = same_some w.0 v (sym (first_some f x xs w.0 w.1) ∙ is) in
      (inr (w.1 ∙ ap (λ (u : V). Some u) same), all_none xs v (omega arith)))
      (cases (f x))

  one_of_all : (xs : List X) (v : V) → AllByRecursion (IsOne v) xs → 1 ≤ count f xs → first f xs ≡ Some v
  one_of_all [] v all c = absurd (omega arith)
  one_of_all (x ∷ xs) v all c =
      ⊎_elim
      (λ none. let e = count_none f x xs none in first_none f x xs none ∙ one_of_all xs v all.1 (omega arith))
      (λ some. first_some f x xs v some)
      all.0

  to_all : (P : X → Type 0) (xs : List X) → AllByRecursion P xs → All P xs
  to_all P [] a k d l = absurd (omega arith)
  to_all P (x ∷ xs) a zero d l = a.0
  to_all P (x ∷ xs) a (suc k) d l = to_all P xs a.1 k d (omega arith)

  from_all : (P : X → Type 0) (xs : List X) → All P xs → AllByRecursion P xs
  from_all P [] a = tt
  from_all P (x ∷ xs) a = (a 0 x (omega arith), from_all P xs (λ k d l. a (suc k) d (omega arith)))

  -- in another order the first value is the same
  pub first_permuted : (xs ys : List X) → IsPermutation xs ys → count f xs ≤ 1 → first f xs ≡ first f ys
  first_permuted xs ys p c =
      let counted : count f ys ≡ count f xs = sum_by-IsPermutation (λ x. tick (is_some (f x))) xs ys p in
      ⊎_elim
      (λ none. none ∙ sym (none_counted ys (counted ∙ no_first xs none)))
      (λ v.
      let all : All (IsOne v.0) ys = All-permutation (IsOne v.0) xs ys p (to_all (IsOne v.0) xs (all_one xs v.0 c v.1)) in
      let many : 1 ≤ count f xs = some_counted xs v.0 v.1 in
      v.1 ∙ sym (one_of_all ys v.0 (from_all (IsOne v.0) ys all) (omega arith)))
      (cases (first f xs))
