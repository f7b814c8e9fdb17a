-- What follows from an element of a list that passes a test.
use Rattle.std.proofs.Common.{◌≡◌, Bool, true, false, ◌||◌, List, [], ◌∷◌, refl, sym, ◌∙◌, ap, ⊎_elim}
use Rattle.std.specs.List.{list_any, filter}
use Rattle.std.proofs.lemmas.Bool.{false≢true, both_ways, or_cases, or_left, or_right, cases_Bool, cond-true, cond-false, false_from_ne_true}

-- what follows from each element that passes, follows where some does; an element is in the list by a test that each element passes of itself
pub from_any : {X G : Type 0} (e : X → X → Bool) → ((x : X) → e x x ≡ true) → (p : X → Bool) (xs : List X)
    → ((x : X) → list_any (e x) xs ≡ true → p x ≡ true → G) → list_any p xs ≡ true → G
from_any e same p [] next is = absurd (false≢true is)
from_any e same p (x ∷ xs) next is =
    ⊎_elim
    (λ here. next x (or_left (e x x) (list_any (e x) xs) (same x)) here)
    (λ there. from_any e same p xs (λ y among passes. next y (or_right (e y x) (list_any (e y) xs) among) passes) there)
    (or_cases (p x) (list_any p xs) is)

-- a weaker test passes too
pub any_weaker : {X : Type 0} (e p : X → Bool) (xs : List X) → ((x : X) → e x ≡ true → p x ≡ true) → list_any e xs ≡ true → list_any p xs ≡ true
any_weaker e p [] more is = is
any_weaker e p (x ∷ xs) more is =
    ⊎_elim
    (λ here. or_left (p x) (list_any p xs) (more x here))
    (λ there. or_right (p x) (list_any p xs) (any_weaker e p xs more there))
    (or_cases (e x) (list_any e xs) is)

-- where a filter keeps what passes, it changes nothing
pub any_filter : {X : Type 0} (p q : X → Bool) (xs : List X) → ((x : X) → p x ≡ true → q x ≡ true) → list_any p (filter q xs) ≡ list_any p xs
any_filter p q [] within = refl
any_filter p q (x ∷ xs) within =
    ⊎_elim
    (λ yes. ap (list_any p) (cond-true (q x) (x ∷ filter q xs) (filter q xs) yes) ∙ ap (λ b. p x || b) (any_filter p q xs within))
    (λ no.
    let fails : p x ≡ false = false_from_ne_true (p x) (λ t. both_ways (q x) no (within x t)) in
    ap (list_any p) (cond-false (q x) (x ∷ filter q xs) (filter q xs) no) ∙ any_filter p q xs within ∙ ap (λ b. b || list_any p xs) (sym fails))
    (cases_Bool (q x))

-- two tests at once
any_or : {X : Type 0} (f g : X → Bool) (xs : List X) → (list_any f xs || list_any g xs) ≡ list_any (λ x. f x || g x) xs
any_or f g [] = refl
any_or f g (x ∷ xs) = turned (f x) (g x) (list_any f xs) (list_any g xs) ∙ ap (λ b. (f x || g x) || b) (any_or f g xs)
  where
    turned : (a b c d : Bool) → ((a || c) || (b || d)) ≡ ((a || b) || (c || d))
    turned true b c d = refl
    turned false true true d = refl
    turned false true false d = refl
    turned false false c d = refl

pub any_never : {X : Type 0} (xs : List X) → list_any (λ x. false) xs ≡ false
any_never [] = refl
any_never (x ∷ xs) = any_never xs

-- it doesn't matter which of two lists is gone over first
pub any_exchange : {X Y : Type 0} (f : X → Y → Bool) (xs : List X) (ys : List Y)
    → list_any (λ x. list_any (f x) ys) xs ≡ list_any (λ y. list_any (λ x. f x y) xs) ys
any_exchange f [] ys = sym (any_never ys)
any_exchange f (x ∷ xs) ys = ap (λ b. list_any (f x) ys || b) (any_exchange f xs ys) ∙ any_or (f x) (λ y. list_any (λ z. f z y) xs) ys

-- tests that pass together are equal
pub same_truth : (a b : Bool) → (a ≡ true → b ≡ true) → (b ≡ true → a ≡ true) → a ≡ b
same_truth a b there back =
    ⊎_elim
    (λ yes. yes ∙ sym (there yes))
    (λ no. no ∙ sym (false_from_ne_true b (λ t. both_ways a no (back t))))
    (cases_Bool a)
