-- What lists give, one item further.
use Rattle.std.proofs.Common.{◌≡◌, ℕ, ◌+◌, ◌<◌, List, [], ◌∷◌, ◌++◌, length, map, take, get_or, refl, sym, ap, ◌∙◌, append_assoc, append-nil, Bool, ◌||◌}
use Rattle.std.proofs.lemmas.List.{map-append}
use Rattle.std.proofs.lemmas.List.Elements.{filter_map-append}
use Rattle.std.proofs.lemmas.List.Concat.{flat_map-append}
use Rattle.std.specs.Prelude.{Option, None, Some}
use Rattle.std.specs.List.{list_any, flat_map, filter_map, cons_option}
use Rattle.std.specs.Option.{option_to_list}
use Rattle.check_model.proofs.ListLaws.{next_taken, next_given}

one_given : {Y : Type 0} (o : Option Y) → cons_option o [] ≡ option_to_list o
one_given None = refl
one_given (Some y) = refl

pub any_map : {X Y : Type 0} (p : Y → Bool) (f : X → Y) (xs : List X) → list_any p (map f xs) ≡ list_any (λ x. p (f x)) xs
any_map p f [] = refl
any_map p f (x ∷ xs) = ap (λ b. p (f x) || b) (any_map p f xs)

-- what is given so far, behind what was there before
pub given_behind : {X Y : Type 0} (f : X → Option Y) (xs : List X) (i : ℕ) (x : X) (before out new : List Y) (o : Option Y)
    → i < length xs → x ≡ get_or xs i x → out ≡ before ++ filter_map f (take i xs) → o ≡ f x → new ≡ out ++ option_to_list o
    → new ≡ before ++ filter_map f (take (i + 1) xs)
given_behind f xs i x before out new o within is so_far here more =
    more
    ∙ ap (λ ys. ys ++ option_to_list o) so_far
    ∙ append_assoc before (filter_map f (take i xs)) (option_to_list o)
    ∙ ap (λ ys. before ++ ys) (next_given f xs i x o within is here)

-- the same of what is asked or lent
pub given_mapped : {W X Y : Type 0} (f : X → Option Y) (g : W → X) (ws : List W) (i : ℕ) (w : W) (out new : List Y) (o : Option Y)
    → i < length ws → w ≡ get_or ws i w → out ≡ filter_map f (map g (take i ws)) → o ≡ f (g w) → new ≡ out ++ option_to_list o
    → new ≡ filter_map f (map g (take (i + 1) ws))
given_mapped f g ws i w out new o within is so_far here more =
    more
    ∙ ap (λ ys. ys ++ option_to_list o) so_far
    ∙ ap (λ p. filter_map f (map g (take i ws)) ++ option_to_list p) here
    ∙ ap (λ ys. filter_map f (map g (take i ws)) ++ ys) (sym (one_given (f (g w))))
    ∙ sym (ap (λ vs. filter_map f (map g vs)) (next_taken ws i w within is)
    ∙ ap (filter_map f) (map-append g (take i ws) (w ∷ []))
    ∙ filter_map-append f (map g (take i ws)) (g w ∷ []))

-- what lists of lists give, one item further
pub flat_next : {W X Y : Type 0} (f : X → List Y) (g : W → X) (ws : List W) (i : ℕ) (w : W) (out new : List Y)
    → i < length ws → w ≡ get_or ws i w → out ≡ flat_map f (map g (take i ws)) → new ≡ out ++ f (g w)
    → new ≡ flat_map f (map g (take (i + 1) ws))
flat_next f g ws i w out new within is so_far more =
    more
    ∙ ap (λ ys. ys ++ f (g w)) so_far
    ∙ ap (λ ys. flat_map f (map g (take i ws)) ++ ys) (sym (append-nil (f (g w))))
    ∙ sym (ap (λ vs. flat_map f (map g vs)) (next_taken ws i w within is)
    ∙ ap (flat_map f) (map-append g (take i ws) (w ∷ []))
    ∙ flat_map-append f (map g (take i ws)) (g w ∷ []))

map_twice : {W X Y : Type 0} (f : X → Y) (g : W → X) (ws : List W) → map (λ w. f (g w)) ws ≡ map f (map g ws)
map_twice f g [] = refl
map_twice f g (w ∷ ws) = ap (λ ys. f (g w) ∷ ys) (map_twice f g ws)

-- what is made of each item, behind a first one
pub behind_first : {W X Y : Type 0} (f : X → Y) (g : W → X) (ws : List W) (out begun : List Y) (first y : Y)
    → begun ≡ out ++ first ∷ [] → first ≡ y → begun ++ map (λ w. f (g w)) ws ≡ out ++ y ∷ map f (map g ws)
behind_first f g ws out begun first y is here =
    ap (λ ys. ys ++ map (λ w. f (g w)) ws) (is ∙ ap (λ z. out ++ z ∷ []) here)
    ∙ append_assoc out (y ∷ []) (map (λ w. f (g w)) ws)
    ∙ ap (λ ys. out ++ y ∷ ys) (map_twice f g ws)
