-- Elements by their place in a list that grows at its end.
use Rattle.std.proofs.Common.{◌≡◌, ℕ, zero, suc, ◌+◌, List, [], ◌∷◌, ◌++◌, Option, Some, None, length, refl, ap, ◌⊎◌, inl, inr, arith}
use Rattle.std.specs.Prelude.{slice_get, option_and_then}

pub slice_get-append : {X : Type 0} (xs ys : List X) (n : ℕ) (x : X) → slice_get xs n ≡ Some x → slice_get (xs ++ ys) n ≡ Some x
slice_get-append [] ys n x e = cc
slice_get-append (y ∷ xs) ys zero x e = e
slice_get-append (y ∷ xs) ys (suc n) x e = slice_get-append xs ys n x e

pub slice_get-behind : {X : Type 0} (xs : List X) (x : X) (ys : List X) → slice_get (xs ++ x ∷ ys) (length xs) ≡ Some x
slice_get-behind [] x ys = refl
slice_get-behind (y ∷ xs) x ys = slice_get-behind xs x ys

-- an element of a list that one was put behind is in the list, or is that one
pub slice_get-pushed : {X : Type 0} (xs : List X) (y : X) (n : ℕ) (x : X) → slice_get (xs ++ y ∷ []) n ≡ Some x → (slice_get xs n ≡ Some x) ⊎ ((n ≡ length xs) × (y ≡ x))
slice_get-pushed [] y zero x e = inr (refl, cc)
slice_get-pushed [] y (suc n) x e = absurd cc
slice_get-pushed (z ∷ xs) y zero x e = inl e
slice_get-pushed (z ∷ xs) y (suc n) x e = elim (slice_get-pushed xs y n x e) [ inl h ↦ inl h | inr h ↦ inr (ap suc h.0, h.1) ]

-- what a step behind an optional value gives came from a value
pub and_then_some : {A B : Type 0} (f : A → Option B) (o : Option A) (b : B) → option_and_then f o ≡ Some b → (a : A) × (o ≡ Some a) × (f a ≡ Some b)
and_then_some f None b e = absurd cc
and_then_some f (Some a) b e = (a, refl, e)

-- an element of two lists is in the first, or in the second at the place that is left
pub slice_get-parts : {X : Type 0} (xs ys : List X) (n : ℕ) (x : X) → slice_get (xs ++ ys) n ≡ Some x → (slice_get xs n ≡ Some x) ⊎ ((k : ℕ) × (n ≡ length xs + k) × (slice_get ys k ≡ Some x))
slice_get-parts [] ys n x e = let here : n ≡ 0 + n = omega arith in inr (n, here, e)
slice_get-parts (z ∷ xs) ys zero x e = inl e
slice_get-parts (z ∷ xs) ys (suc n) x e = elim (slice_get-parts xs ys n x e) [
  | inl h ↦ inl h
  | inr h ↦ (let there : suc n ≡ suc (length xs) + h.0 = omega (arith, h.1) in inr (h.0, there, h.2))
]
