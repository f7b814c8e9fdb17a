-- Tests and places in lists that are joined, and steps of loops over lists.
use Rattle.std.proofs.Common.{◌≡◌, ℕ, suc, ◌+◌, ◌<◌, List, [], ◌∷◌, ◌++◌, length, map, take, drop, get_or, refl, ap, sym, ◌∙◌, add-one, append_assoc, arith, Bool, true, false, cond, ◌||◌}
use Rattle.std.proofs.Math.Dec.{ltb}
use Rattle.std.proofs.Math.Seq.{drop-cons}
use Rattle.std.specs.Prelude.{Option, None, Some, slice_get}
use Rattle.std.specs.Option.{option_or, option_to_list, option_and_then}
use Rattle.std.specs.List.{list_any, flat_map, filter_map, cons_option, enumerate_from, find, position_from, position_or_len}
use Rattle.std.proofs.lemmas.Bool.{ltb-false}
use Rattle.std.proofs.lemmas.List.{take_more, length-take-le}
use Rattle.std.proofs.lemmas.List.Elements.{filter_map-append}
use Rattle.std.proofs.lemmas.List.Folds.{list_any-append, find_at}
use Rattle.std.proofs.lemmas.Option.{slice_get_past}
use Rattle.std.proofs.lemmas.Iterator.Adapters.{position_from-zero}

-- something in the lists that are joined
pub any_flat_map : {X A : Type 0} (t : A → Bool) (f : X → List A) (xs : List X) → list_any t (flat_map f xs) ≡ list_any (λ x. list_any t (f x)) xs
any_flat_map t f [] = refl
any_flat_map t f (x ∷ xs) = list_any-append t (f x) (flat_map f xs) ∙ ap (λ b. list_any t (f x) || b) (any_flat_map t f xs)

-- two tests that agree on each item
pub any_congr : {X : Type 0} (p q : X → Bool) (xs : List X) → ((x : X) → p x ≡ q x) → list_any p xs ≡ list_any q xs
any_congr p q [] same = refl
any_congr p q (x ∷ xs) same = ap (λ b. b || list_any p xs) (same x) ∙ ap (λ b. q x || b) (any_congr p q xs same)

-- ---- the first place at which a test passes, with one item more

more_case : {X : Type 0} (t : X → Bool) (i : ℕ) (xs : List X) (y : X) (b : Bool) (o : Option ℕ)
    → o ≡ option_or (position_from t (i + 1) xs) (cond (t y) (Some (i + 1 + length xs)) None)
    → cond b (Some i) o ≡ option_or (cond b (Some i) (position_from t (i + 1) xs)) (cond (t y) (Some (i + suc (length xs))) None)
more_case t i xs y true o is = refl
more_case t i xs y false o is = is ∙ ap (λ n. option_or (position_from t (i + 1) xs) (cond (t y) (Some n) None)) (omega arith)

position_more : {X : Type 0} (t : X → Bool) (i : ℕ) (xs : List X) (y : X)
    → position_from t i (xs ++ y ∷ []) ≡ option_or (position_from t i xs) (cond (t y) (Some (i + length xs)) None)
position_more t i [] y = ap (λ n. cond (t y) (Some n) None) (omega arith)
position_more t i (x ∷ xs) y = more_case t i xs y (t x) _ (position_more t (i + 1) xs y)

pub position_push : {X : Type 0} (t : X → Bool) (xs : List X) (y : X) → position_from t 0 (xs ++ y ∷ []) ≡ option_or (position_from t 0 xs) (cond (t y) (Some (length xs)) None)
position_push t xs y = position_more t 0 xs y ∙ ap (λ n. option_or (position_from t 0 xs) (cond (t y) (Some n) None)) (omega arith)

pub position_congr : {X : Type 0} (t u : X → Bool) (i : ℕ) (xs : List X) → ((x : X) → t x ≡ u x) → position_from t i xs ≡ position_from u i xs
position_congr t u i [] same = refl
position_congr t u i (x ∷ xs) same =
    ap (λ b. cond b (Some i) (position_from t (i + 1) xs)) (same x)
    ∙ ap (cond (u x) (Some i)) (position_congr t u (i + 1) xs same)

pub or_none : {X : Type 0} (o : Option X) → option_or o None ≡ o
or_none None = refl
or_none (Some x) = refl

-- ---- one item further in a list

pub next_taken : {X : Type 0} (xs : List X) (i : ℕ) (x : X) → i < length xs → x ≡ get_or xs i x → take (i + 1) xs ≡ take i xs ++ x ∷ []
next_taken xs i x within is = take_more xs i x within ∙ ap (λ y. take i xs ++ y ∷ []) (sym is)

given_case : {Y : Type 0} (o : Option Y) → cons_option o [] ≡ option_to_list o
given_case None = refl
given_case (Some y) = refl

-- what the items so far give, and what the next one gives
pub next_given : {X Y : Type 0} (f : X → Option Y) (xs : List X) (i : ℕ) (x : X) (o : Option Y) → i < length xs → x ≡ get_or xs i x → o ≡ f x
    → filter_map f (take i xs) ++ option_to_list o ≡ filter_map f (take (i + 1) xs)
next_given f xs i x o within is here =
    ap (λ p. filter_map f (take i xs) ++ option_to_list p) here
    ∙ ap (λ ys. filter_map f (take i xs) ++ ys) (sym (given_case (f x)))
    ∙ sym (ap (filter_map f) (next_taken xs i x within is) ∙ filter_map-append f (take i xs) (x ∷ []))

-- what is left of a list, from an index on
pub next_left : {X : Type 0} (xs : List X) (i : ℕ) (x : X) → i < length xs → x ≡ get_or xs i x → drop i xs ≡ x ∷ drop (i + 1) xs
next_left xs i x within is =
    drop-cons xs i x within
    ∙ ap (λ y. y ∷ drop (suc i) xs) (sym is)
    ∙ ap (λ n. x ∷ drop n xs) (sym (add-one i))

-- what a list of lists gives, where the first of them was pushed
pub next_pushed : {X A B : Type 0} (g : A → Option B) (f : X → List A) (xs : List X) (i : ℕ) (x : X) (out new whole : List B)
    → i < length xs → x ≡ get_or xs i x
    → whole ≡ out ++ filter_map g (flat_map (λ ys. ys) (map f (drop i xs)))
    → new ≡ out ++ filter_map g (f x)
    → whole ≡ new ++ filter_map g (flat_map (λ ys. ys) (map f (drop (i + 1) xs)))
next_pushed g f xs i x out new whole within is so_far here =
    so_far
    ∙ ap (λ ys. out ++ filter_map g (flat_map (λ zs. zs) (map f ys))) (next_left xs i x within is)
    ∙ ap (λ ys. out ++ ys) (filter_map-append g (f x) (flat_map (λ zs. zs) (map f (drop (i + 1) xs))))
    ∙ sym (append_assoc out (filter_map g (f x)) (filter_map g (flat_map (λ zs. zs) (map f (drop (i + 1) xs)))))
    ∙ ap (λ ys. ys ++ filter_map g (flat_map (λ zs. zs) (map f (drop (i + 1) xs)))) (sym here)

-- two functions that agree on each item
pub map_congr : {X Y : Type 0} (f g : X → Y) (xs : List X) → ((x : X) → f x ≡ g x) → map f xs ≡ map g xs
map_congr f g [] same = refl
map_congr f g (x ∷ xs) same = ap (λ y. y ∷ map f xs) (same x) ∙ ap (λ ys. g x ∷ ys) (map_congr f g xs same)

pub given_congr : {X Y : Type 0} (f g : X → Option Y) (xs : List X) → ((x : X) → f x ≡ g x) → filter_map f xs ≡ filter_map g xs
given_congr f g [] same = refl
given_congr f g (x ∷ xs) same = ap (λ o. cons_option o (filter_map f xs)) (same x) ∙ ap (cons_option (g x)) (given_congr f g xs same)

-- the first item that passes a test, by its place
past_case : {X : Type 0} (xs : List X) (n : ℕ) (b : Bool) → ltb n (length xs) ≡ b → slice_get xs n ≡ option_and_then (slice_get xs) (cond b (Some n) None)
past_case xs n true is = refl
past_case xs n false is = slice_get_past xs n (ltb-false n (length xs) is)

pub find_place : {X : Type 0} (p : X → Bool) (xs : List X) → find p xs ≡ option_and_then (slice_get xs) (position_from p 0 xs)
find_place p xs =
    find_at p xs
    ∙ past_case xs (position_or_len p xs) (ltb (position_or_len p xs) (length xs)) refl
    ∙ ap (option_and_then (slice_get xs)) (position_from-zero p xs)

-- ---- items with their places

numbered_push : {X : Type 0} (n : ℕ) (xs : List X) (y : X) → enumerate_from n (xs ++ y ∷ []) ≡ enumerate_from n xs ++ (n + length xs, y) ∷ []
numbered_push n [] y = ap (λ k. (k, y) ∷ []) (omega arith)
numbered_push n (x ∷ xs) y =
    ap (λ ps. (n, x) ∷ ps) (numbered_push (n + 1) xs y)
    ∙ ap (λ k. (n, x) ∷ (enumerate_from (n + 1) xs ++ (k, y) ∷ [])) (omega arith)

-- what the items so far give with their places, and what the next one gives
pub next_numbered : {X Y : Type 0} (f : ℕ × X → Option Y) (xs : List X) (i : ℕ) (x : X) → i < length xs → x ≡ get_or xs i x
    → filter_map f (enumerate_from 0 (take i xs)) ++ option_to_list (f (i, x)) ≡ filter_map f (enumerate_from 0 (take (i + 1) xs))
next_numbered f xs i x within is =
    let front : length (take i xs) ≡ i = length-take-le i xs (omega arith) in
    let place : 0 + length (take i xs) ≡ i = omega arith in
    ap (λ ys. filter_map f (enumerate_from 0 (take i xs)) ++ ys) (sym (given_case (f (i, x))))
    ∙ ap (λ k. filter_map f (enumerate_from 0 (take i xs)) ++ filter_map f ((k, x) ∷ [])) (sym place)
    ∙ sym (ap (λ ys. filter_map f (enumerate_from 0 ys)) (next_taken xs i x within is)
    ∙ ap (filter_map f) (numbered_push 0 (take i xs) x)
    ∙ filter_map-append f (enumerate_from 0 (take i xs)) ((0 + length (take i xs), x) ∷ []))
