-- Lists that aren't as long as each other.
use Rattle.std.proofs.Common.{◌≡◌, suc, List, [], ◌∷◌, map, length, refl, ap, sym, ◌∙◌, Bool, false, true, ◌&&◌}
use Rattle.check_model.specs.SameValues.{all_same}

and_false : (b : Bool) → false ≡ (b && false)
and_false true = refl
and_false false = refl

shorter : {X : Type 0} (tests : List (X → Bool)) (xs : List X) → (length tests ≡ length xs → ⊥) → false ≡ all_same tests xs
shorter [] [] differ = absurd (differ refl)
shorter [] (x ∷ xs) differ = refl
shorter (t ∷ tests) [] differ = refl
shorter (t ∷ tests) (x ∷ xs) differ = and_false (t x) ∙ ap (λ b. t x && b) (shorter tests xs (λ e. differ (ap suc e)))

as_many : {X Y : Type 0} (f : X → Y) (xs : List X) → length (map f xs) ≡ length xs
as_many f [] = refl
as_many f (x ∷ xs) = ap suc (as_many f xs)

pub differ_in_length : {X Y : Type 0} (same : Y → X → Bool) (ys : List Y) (xs : List X) → (length ys ≡ length xs → ⊥) → false ≡ all_same (map same ys) xs
differ_in_length same ys xs differ = shorter (map same ys) xs (λ e. differ (sym (as_many same ys) ∙ e))
