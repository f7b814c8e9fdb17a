-- A test of all items, or of any, from an index on.
use Rattle.std.proofs.Common.{◌≡◌, ℕ, suc, ◌+◌, ◌<◌, List, [], ◌∷◌, map, length, drop, get_or, refl, ap, sym, ◌∙◌, add-one, Bool, true, false, ◌&&◌, ◌||◌}
use Rattle.std.proofs.Math.Seq.{drop-cons}
use Rattle.std.specs.List.{list_all, list_any}

-- what is left from an index on
left : {X : Type 0} (xs : List X) (i : ℕ) (x : X) → i < length xs → x ≡ get_or xs i x → drop i xs ≡ x ∷ drop (i + 1) xs
left xs i x within is =
    drop-cons xs i x within
    ∙ ap (λ y. y ∷ drop (suc i) xs) (sym is)
    ∙ ap (λ n. x ∷ drop n xs) (sym (add-one i))

pub all_next : {X Y : Type 0} (P : Y → Bool) (f : X → Y) (xs : List X) (i : ℕ) (x : X) (whole b : Bool)
    → i < length xs → x ≡ get_or xs i x → whole ≡ list_all P (map f (drop i xs)) → b ≡ P (f x) → b ≡ true
    → whole ≡ list_all P (map f (drop (i + 1) xs))
all_next P f xs i x whole b within is so_far here true_here =
    so_far
    ∙ ap (λ ys. list_all P (map f ys)) (left xs i x within is)
    ∙ ap (λ c. c && list_all P (map f (drop (i + 1) xs))) (sym here ∙ true_here)

pub all_fails : {X Y : Type 0} (P : Y → Bool) (f : X → Y) (xs : List X) (i : ℕ) (x : X) (whole b : Bool)
    → i < length xs → x ≡ get_or xs i x → whole ≡ list_all P (map f (drop i xs)) → b ≡ P (f x) → b ≡ false
    → false ≡ whole
all_fails P f xs i x whole b within is so_far here false_here =
    sym (so_far
    ∙ ap (λ ys. list_all P (map f ys)) (left xs i x within is)
    ∙ ap (λ c. c && list_all P (map f (drop (i + 1) xs))) (sym here ∙ false_here))

pub any_next : {X Y : Type 0} (P : Y → Bool) (f : X → Y) (xs : List X) (i : ℕ) (x : X) (whole b : Bool)
    → i < length xs → x ≡ get_or xs i x → whole ≡ list_any P (map f (drop i xs)) → b ≡ P (f x) → b ≡ false
    → whole ≡ list_any P (map f (drop (i + 1) xs))
any_next P f xs i x whole b within is so_far here false_here =
    so_far
    ∙ ap (λ ys. list_any P (map f ys)) (left xs i x within is)
    ∙ ap (λ c. c || list_any P (map f (drop (i + 1) xs))) (sym here ∙ false_here)

pub any_holds : {X Y : Type 0} (P : Y → Bool) (f : X → Y) (xs : List X) (i : ℕ) (x : X) (whole b : Bool)
    → i < length xs → x ≡ get_or xs i x → whole ≡ list_any P (map f (drop i xs)) → b ≡ P (f x) → b ≡ true
    → true ≡ whole
any_holds P f xs i x whole b within is so_far here true_here =
    sym (so_far
    ∙ ap (λ ys. list_any P (map f ys)) (left xs i x within is)
    ∙ ap (λ c. c || list_any P (map f (drop (i + 1) xs))) (sym here ∙ true_here))

-- two tests that agree on each item
pub all_congr : {X : Type 0} (P Q : X → Bool) (xs : List X) → ((x : X) → P x ≡ Q x) → list_all P xs ≡ list_all Q xs
all_congr P Q [] same = refl
all_congr P Q (x ∷ xs) same =
    ap (λ b. b && list_all P xs) (same x) ∙ ap (λ b. Q x && b) (all_congr P Q xs same)
