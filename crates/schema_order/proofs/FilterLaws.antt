-- The items that pass a test, of a list in another order.
use Rattle.std.proofs.Common.{◌≡◌, ℕ, zero, suc, ◌<◌, Bool, true, false, cond, List, [], ◌∷◌, ◌++◌, map, filter, flat_map, length, get_or, set, swap, refl, sym, ap, ◌∙◌, subst₂, arith, append_assoc, IsPermutation}
use Rattle.std.proofs.lemmas.List.Sorted.{IsPermutation-refl, IsPermutation-keeps, IsPermutation-trans, IsPermutation-append_left, IsPermutation-append_right, IsPermutation-append_comm}

module _ {A B : Type 0} (f : A → List B) where
  -- what the lists give, one behind another, is a permutation too
  abbrev Shuffled : List A → List A → Type 0
  Shuffled xs ys = IsPermutation (flat_map f xs) (flat_map f ys)

  skip : (x : A) (xs ys : List A) → Shuffled xs ys → Shuffled (x ∷ xs) (x ∷ ys)
  skip x xs ys h = IsPermutation-append_right (f x) _ _ h

  turn : (x y : A) (xs : List A) → Shuffled (x ∷ y ∷ xs) (y ∷ x ∷ xs)
  turn x y xs = rw (← append_assoc (f x), ← append_assoc (f y)) (IsPermutation-append_left (flat_map f xs) _ _ (IsPermutation-append_comm (f x) (f y)))

  chain : (xs ys zs : List A) → Shuffled xs ys → Shuffled ys zs → Shuffled xs zs
  chain xs ys zs = IsPermutation-trans _ _ _

  to_head : (l : List A) (j : ℕ) (x d : A) → j < length l → Shuffled (x ∷ l) (get_or l j d ∷ set l j x)
  to_head [] j x d h = absurd (omega arith)
  to_head (y ∷ l) zero x d h = turn x y l
  to_head (y ∷ l) (suc j) x d h =
      let v = get_or l j d in
      let rest = set l j x in
      chain (x ∷ y ∷ l) (y ∷ x ∷ l) (v ∷ y ∷ rest) (turn x y l)
      (chain (y ∷ x ∷ l) (y ∷ v ∷ rest) (v ∷ y ∷ rest) (skip y (x ∷ l) (v ∷ rest) (to_head l j x d (omega arith))) (turn y v rest))

  exchanged : (l : List A) (i j : ℕ) (d : A) → i < length l → j < length l → Shuffled l (set (set l i (get_or l j d)) j (get_or l i d))
  exchanged [] i j d p q = absurd (omega arith)
  exchanged (x ∷ l) zero zero d p q = IsPermutation-refl _
  exchanged (x ∷ l) zero (suc j) d p q = to_head l j x d (omega arith)
  exchanged (x ∷ l) (suc i) zero d p q = to_head l i x d (omega arith)
  exchanged (x ∷ l) (suc i) (suc j) d p q = skip x l (set (set l i (get_or l j d)) j (get_or l i d)) (exchanged l i j d (omega arith) (omega arith))

  swapped : (l : List A) (i j : ℕ) → i < length l → j < length l → Shuffled l (swap l i j)
  swapped [] i j p q = IsPermutation-refl _
  swapped (x ∷ l) i j p q = exchanged (x ∷ l) i j x p q

  shuffled : (xs ys : List A) → IsPermutation xs ys → Shuffled xs ys
  shuffled xs = IsPermutation-keeps xs (Shuffled xs) (IsPermutation-refl _) (λ l i j p q h. chain xs l _ h (swapped l i j p q))

module _ {A : Type 0} (p : A → Bool) where
  abbrev kept : A → List A
  kept x = cond (p x) (x ∷ []) []

  kept_case : (b : Bool) (x : A) (xs : List A) → cond b (x ∷ xs) xs ≡ cond b (x ∷ []) [] ++ xs
  kept_case true x xs = refl
  kept_case false x xs = refl

  as_flat_map : (xs : List A) → filter p xs ≡ flat_map kept xs
  as_flat_map [] = refl
  as_flat_map (x ∷ xs) = kept_case (p x) x (filter p xs) ∙ ap (λ (l : List A). kept x ++ l) (as_flat_map xs)

  pub filter_permuted : (xs ys : List A) → IsPermutation xs ys → IsPermutation (filter p xs) (filter p ys)
  filter_permuted xs ys h = subst₂ IsPermutation (sym (as_flat_map xs)) (sym (as_flat_map ys)) (shuffled kept xs ys h)

-- a test that a change of the items doesn't touch
pub filter_mapped : {A : Type 0} (p : A → Bool) (f : A → A) → ((x : A) → p (f x) ≡ p x) → (xs : List A) → map f (filter p xs) ≡ filter p (map f xs)
filter_mapped p f each [] = refl
filter_mapped {A} p f each (x ∷ xs) =
    by (p x) (filter p xs) ∙ ap (λ (b : Bool). cond b (f x ∷ map f (filter p xs)) (map f (filter p xs))) (sym (each x))
    ∙ ap (λ (l : List A). cond (p (f x)) (f x ∷ l) l) (filter_mapped p f each xs)
  where
    by : (b : Bool) (l : List A) → map f (cond b (x ∷ l) l) ≡ cond b (f x ∷ map f l) (map f l)
    by true l = refl
    by false l = refl
