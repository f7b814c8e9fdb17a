-- Facts of each item of a list, and the places behind a front.
use Rattle.std.proofs.Common.{◌≡◌, ℕ, zero, suc, ◌+◌, ◌<◌, List, [], ◌∷◌, ◌++◌, drop, length, set, get_or, ap, arith}
use Rattle.std.specs.Prelude.{slice_get, IfSome}
use Rattle.std.specs.declared.cmp.Ordering.{Ordering}
use Rattle.std.specs.declared.cmp.Ordering.TheVariants.{Less}
use Rattle.std.specs.List.{AllByRecursion}
use Rattle.std.specs.List.Sorted.{IsStrictlySortedBy}

pub all-append : {X : Type 0} (P : X → Type 0) (xs ys : List X) → AllByRecursion P xs → AllByRecursion P ys → AllByRecursion P (xs ++ ys)
all-append P [] ys a b = b
all-append P (x ∷ xs) ys a b = (a.0, all-append P xs ys a.1 b)

pub all-set : {X : Type 0} (P : X → Type 0) (xs : List X) (i : ℕ) (y : X) → AllByRecursion P xs → P y → AllByRecursion P (set xs i y)
all-set P [] i y a p = tt
all-set P (x ∷ xs) zero y a p = (p, a.1)
all-set P (x ∷ xs) (suc i) y a p = (a.0, all-set P xs i y a.1 p)

pub all_front : {X : Type 0} (P : X → Type 0) (xs ys : List X) (i : ℕ) (d : X) → AllByRecursion P xs → i < length xs → P (get_or (xs ++ ys) i d)
all_front P [] ys i d a l = absurd (omega arith)
all_front P (x ∷ xs) ys zero d a l = a.0
all_front P (x ∷ xs) ys (suc i) d a l = all_front P xs ys i d a.1 (omega arith)

pub get_above : {X : Type 0} (xs ys : List X) (i n : ℕ) (d : X) → n ≡ length xs + i → get_or (xs ++ ys) n d ≡ get_or ys i d
get_above {X} [] ys i n d e = let same : n ≡ i = omega arith in ap (λ (k : ℕ). get_or ys k d) same
get_above (x ∷ xs) ys i zero d e = absurd (omega arith)
get_above (x ∷ xs) ys i (suc n) d e = get_above xs ys i n d (omega arith)

pub set_above : {X : Type 0} (xs ys : List X) (i n : ℕ) (c : X) → n ≡ length xs + i → set (xs ++ ys) n c ≡ xs ++ set ys i c
set_above [] ys i n c e = let same : n ≡ i = omega arith in ap (λ (k : ℕ). set ys k c) same
set_above (x ∷ xs) ys i zero c e = absurd (omega arith)
set_above {X} (x ∷ xs) ys i (suc n) c e = ap (λ (zs : List X). x ∷ zs) (set_above xs ys i n c (omega arith))

pub drop_above : {X : Type 0} (xs ys : List X) (i n : ℕ) → n ≡ length xs + i → drop n (xs ++ ys) ≡ drop i ys
drop_above [] ys i n e = let same : n ≡ i = omega arith in ap (λ (k : ℕ). drop k ys) same
drop_above (x ∷ xs) ys i zero e = absurd (omega arith)
drop_above (x ∷ xs) ys i (suc n) e = drop_above xs ys i n (omega arith)

-- what holds of the item at a place
pub at_place : {X : Type 0} (P : X → Type 0) (xs : List X) (i : ℕ) (d : X) → i < length xs → IfSome (slice_get xs i) P → P (get_or xs i d)
at_place P [] i d l h = absurd (omega arith)
at_place P (x ∷ xs) zero d l h = h
at_place P (x ∷ xs) (suc i) d l h = at_place P xs i d (omega arith) h

pub at_place_from : {X : Type 0} (P : X → Type 0) (xs : List X) (i : ℕ) (d : X) → i < length xs → P (get_or xs i d) → IfSome (slice_get xs i) P
at_place_from P [] i d l h = absurd (omega arith)
at_place_from P (x ∷ xs) zero d l h = h
at_place_from P (x ∷ xs) (suc i) d l h = at_place_from P xs i d (omega arith) h

-- two lists in order, the first below the second
pub sorted-append : {X : Type 0} (cmp : X → X → Ordering) (xs ys : List X) → IsStrictlySortedBy cmp xs → IsStrictlySortedBy cmp ys → AllByRecursion (λ x. AllByRecursion (λ y. cmp x y ≡ Less) ys) xs → IsStrictlySortedBy cmp (xs ++ ys)
unfolding IsStrictlySortedBy
sorted-append cmp [] ys s t a = t
sorted-append cmp (x ∷ xs) ys s t a = (all-append (λ y. cmp x y ≡ Less) xs ys s.0 a.0, sorted-append cmp xs ys s.1 t a.1)
