-- Whether there is a fault at all, whatever its line.
use Rattle.std.proofs.Common.{◌≡◌, ℕ, Bool, true, false, ◌||◌, List, [], ◌∷◌, refl, sym, ap, ◌∙◌, Option, Some, None, is_some}
use Rattle.std.specs.List.{fold, list_any, flat_map}
use Rattle.std.specs.List.Sorted.{IsPermutation}
use Rattle.std.proofs.lemmas.List.Folds.{list_any-append}
use Rattle.std.proofs.lemmas.List.Sorted.{list_any-IsPermutation}
use Rattle.schema_rules.specs.Lines.{earlier, least_by}

-- one of two lines is there
pub some_earlier : (a b : Option ℕ) → is_some (earlier a b) ≡ (is_some a || is_some b)
some_earlier None b = refl
some_earlier (Some a) None = refl
some_earlier (Some a) (Some b) = refl

or_assoc : (a b c : Bool) → ((a || b) || c) ≡ (a || (b || c))
or_assoc true b c = refl
or_assoc false b c = refl

some_from : {X : Type 0} (line : X → Option ℕ) (known : Option ℕ) (xs : List X)
    → is_some (fold (λ least x. earlier least (line x)) known xs) ≡ (is_some known || list_any (λ x. is_some (line x)) xs)
some_from line known [] = sym (or_false (is_some known))
  where
    or_false : (b : Bool) → (b || false) ≡ b
    or_false true = refl
    or_false false = refl
some_from line known (x ∷ xs) =
    some_from line (earlier known (line x)) xs
    ∙ ap (λ b. b || list_any (λ y. is_some (line y)) xs) (some_earlier known (line x))
    ∙ or_assoc (is_some known) (is_some (line x)) (list_any (λ y. is_some (line y)) xs)

-- a least line is there where an item has a line
pub some_least : {X : Type 0} (line : X → Option ℕ) (xs : List X) → is_some (least_by line xs) ≡ list_any (λ x. is_some (line x)) xs
some_least line xs = some_from line None xs

pub any_flat_map : {X Y : Type 0} (p : Y → Bool) (f : X → List Y) (xs : List X) → list_any p (flat_map f xs) ≡ list_any (λ x. list_any p (f x)) xs
any_flat_map p f [] = refl
any_flat_map p f (x ∷ xs) = list_any-append p (f x) (flat_map f xs) ∙ ap (λ b. list_any p (f x) || b) (any_flat_map p f xs)

-- in another order there is a least line too
pub least_permuted : {X : Type 0} (line : X → Option ℕ) (xs ys : List X) → IsPermutation xs ys → is_some (least_by line xs) ≡ is_some (least_by line ys)
least_permuted line xs ys p =
    some_least line xs ∙ list_any-IsPermutation (λ x. is_some (line x)) xs ys p ∙ sym (some_least line ys)
