-- Folds over lists that are joined, from an index on.
use Rattle.std.proofs.Common.{◌≡◌, ℕ, suc, ◌+◌, ◌<◌, List, [], ◌∷◌, ◌++◌, map, length, drop, get_or, refl, ap, sym, ◌∙◌, add-one, Bool, true, false, ◌||◌}
use Rattle.std.proofs.Math.Seq.{drop-cons}
use Rattle.std.specs.List.{fold, flat_map, list_any}

pub fold_joined : {S V : Type 0} (step : V → S → V) (v : V) (xs ys : List S) → fold step v (xs ++ ys) ≡ fold step (fold step v xs) ys
fold_joined step v [] ys = refl
fold_joined step v (x ∷ xs) ys = fold_joined step (step v x) xs ys

left : {X : Type 0} (xs : List X) (i : ℕ) (x : X) → i < length xs → x ≡ get_or xs i x → drop i xs ≡ x ∷ drop (i + 1) xs
left xs i x within is =
    drop-cons xs i x within
    ∙ ap (λ y. y ∷ drop (suc i) xs) (sym is)
    ∙ ap (λ n. x ∷ drop n xs) (sym (add-one i))

-- one item more of a list, each of which gives a list
pub fold_next_of : {S V X Y : Type 0} (step : V → S → V) (parts : Y → List S) (f : X → Y) (xs : List X) (i : ℕ) (x : X) (whole v w : V)
    → i < length xs → x ≡ get_or xs i x → whole ≡ fold step v (flat_map parts (map f (drop i xs))) → w ≡ fold step v (parts (f x))
    → whole ≡ fold step w (flat_map parts (map f (drop (i + 1) xs)))
fold_next_of step parts f xs i x whole v w within is so_far here =
    so_far
    ∙ ap (λ ys. fold step v (flat_map parts (map f ys))) (left xs i x within is)
    ∙ fold_joined step v (parts (f x)) (flat_map parts (map f (drop (i + 1) xs)))
    ∙ ap (λ u. fold step u (flat_map parts (map f (drop (i + 1) xs)))) (sym here)

pub fold_next : {S V X : Type 0} (step : V → S → V) (parts : X → List S) (xs : List X) (i : ℕ) (x : X) (whole v w : V)
    → i < length xs → x ≡ get_or xs i x → whole ≡ fold step v (flat_map parts (drop i xs)) → w ≡ fold step v (parts x)
    → whole ≡ fold step w (flat_map parts (drop (i + 1) xs))
fold_next step parts xs i x whole v w within is so_far here =
    so_far
    ∙ ap (λ ys. fold step v (flat_map parts ys)) (left xs i x within is)
    ∙ fold_joined step v (parts x) (flat_map parts (drop (i + 1) xs))
    ∙ ap (λ u. fold step u (flat_map parts (drop (i + 1) xs))) (sym here)

or_false : (a : Bool) → a ≡ (a || false)
or_false true = refl
or_false false = refl

or_assoc : (a b c : Bool) → ((a || b) || c) ≡ (a || (b || c))
or_assoc true b c = refl
or_assoc false b c = refl

found_after : {S V : Type 0} (step : V → S → V) (found : V → Bool) (test : V → S → Bool)
    → ((v : V) (s : S) → found (step v s) ≡ (found v || test v s)) → ((v : V) (s : S) → test (step v s) ≡ test v)
    → (v : V) (xs : List S) → found (fold step v xs) ≡ (found v || list_any (test v) xs)
found_after step found test finds keeps v [] = or_false (found v)
found_after step found test finds keeps v (x ∷ xs) =
    found_after step found test finds keeps (step v x) xs
    ∙ ap (λ b. b || list_any (test (step v x)) xs) (finds v x)
    ∙ ap (λ t. (found v || test v x) || list_any t xs) (keeps v x)
    ∙ or_assoc (found v) (test v x) (list_any (test v) xs)

-- a search that goes over a list finds what some item has
pub fold_found : {S V : Type 0} (step : V → S → V) (v w : V) (xs : List S) → w ≡ fold step v xs
    → (found : V → Bool) (test : V → S → Bool)
    → ((v : V) (s : S) → found (step v s) ≡ (found v || test v s)) → ((v : V) (s : S) → test (step v s) ≡ test v)
    → found w ≡ (found v || list_any (test v) xs)
fold_found step v w xs is found test finds keeps = ap found is ∙ found_after step found test finds keeps v xs
