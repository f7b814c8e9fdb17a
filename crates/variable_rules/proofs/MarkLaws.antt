-- What is left of the marked items of a list, from an index on.
use Rattle.std.proofs.Common.{◌≡◌, ℕ, zero, suc, ◌+◌, ◌<◌, ◌≤◌, List, [], ◌∷◌, ◌++◌, length, drop, get_or, refl, ap, sym, ◌∙◌, add-one, Bool, true, false, cond}
use Rattle.std.proofs.lemmas.List.{drop_all}
use Rattle.std.specs.List.{fold, flat_map, items_where_true}
use Rattle.check_model.proofs.ListLaws.{next_left}
use Rattle.site_walk.proofs.WalkLaws.{fold_joined}

-- the first mark, and the others
first : List Bool → Bool
first [] = false
first (m ∷ ms) = m

rest : List Bool → List Bool
rest [] = []
rest (m ∷ ms) = ms

first_left : (ms : List Bool) (i : ℕ) → first (drop i ms) ≡ get_or ms i false
unfolding first
first_left [] zero = refl
first_left [] (suc i) = refl
first_left (m ∷ ms) zero = refl
first_left (m ∷ ms) (suc i) = first_left ms i

rest_left : (ms : List Bool) (i : ℕ) → rest (drop i ms) ≡ drop (suc i) ms
unfolding rest
rest_left [] zero = refl
rest_left [] (suc i) = refl
rest_left (m ∷ ms) zero = refl
rest_left (m ∷ ms) (suc i) = rest_left ms i

split : {X S : Type 0} (parts : X → List S) (ms : List Bool) (x : X) (xs : List X)
    → flat_map parts (items_where_true ms (x ∷ xs)) ≡ cond (first ms) (parts x) [] ++ flat_map parts (items_where_true (rest ms) xs)
unfolding first rest
split parts [] x xs = refl
split parts (true ∷ ms) x xs = refl
split parts (false ∷ ms) x xs = refl

none_left : {X : Type 0} (ms : List Bool) → items_where_true {X = X} ms [] ≡ []
none_left [] = refl
none_left (m ∷ ms) = refl

-- all items were gone over
pub marked_all : {X S V : Type 0} (step : V → S → V) (parts : X → List S) (ms : List Bool) (xs : List X) (i : ℕ) (whole v : V)
    → length xs ≤ i → whole ≡ fold step v (flat_map parts (items_where_true (drop i ms) (drop i xs))) → v ≡ whole
marked_all step parts ms xs i whole v past so_far =
    sym (so_far
    ∙ ap (λ ys. fold step v (flat_map parts (items_where_true (drop i ms) ys))) (drop_all i xs past)
    ∙ ap (λ ys. fold step v (flat_map parts ys)) (none_left (drop i ms)))

-- one item more, which counts if it is marked
pub marked_next : {X S V : Type 0} (step : V → S → V) (parts : X → List S) (ms : List Bool) (xs : List X) (i : ℕ) (x : X) (whole v w : V)
    → i < length xs → x ≡ get_or xs i x
    → whole ≡ fold step v (flat_map parts (items_where_true (drop i ms) (drop i xs)))
    → w ≡ fold step v (cond (get_or ms i false) (parts x) [])
    → whole ≡ fold step w (flat_map parts (items_where_true (drop (i + 1) ms) (drop (i + 1) xs)))
marked_next step parts ms xs i x whole v w within is so_far here =
    so_far
    ∙ ap (λ ys. fold step v (flat_map parts (items_where_true (drop i ms) ys))) (next_left xs i x within is)
    ∙ ap (fold step v) (split parts (drop i ms) x (drop (i + 1) xs))
    ∙ fold_joined step v (cond (first (drop i ms)) (parts x) []) (flat_map parts (items_where_true (rest (drop i ms)) (drop (i + 1) xs)))
    ∙ ap (λ b. fold step (fold step v (cond b (parts x) [])) (flat_map parts (items_where_true (rest (drop i ms)) (drop (i + 1) xs)))) (first_left ms i)
    ∙ ap (λ u. fold step u (flat_map parts (items_where_true (rest (drop i ms)) (drop (i + 1) xs)))) (sym here)
    ∙ ap (λ ns. fold step w (flat_map parts (items_where_true ns (drop (i + 1) xs)))) (rest_left ms i ∙ ap (λ n. drop n ms) (sym (add-one i)))
