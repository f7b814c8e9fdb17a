-- Grounds that are tried one list behind another.
use Rattle.std.proofs.Common.{◌≡◌, List, [], ◌∷◌, ◌++◌, refl, Bool, true, false, cond}
use Rattle.std.specs.Prelude.{Option, Some, None}
use Rattle.check_model.specs.declared.refusal.Refusal.{Refusal}
use Rattle.check_model.specs.Judgement.{Ground, first_ground}

first_case : (g r : Refusal) (t : Bool) (o p : Option Refusal) → Some r ≡ cond t (Some g) o → (Some r ≡ o → Some r ≡ p) → Some r ≡ cond t (Some g) p
first_case g r true o p is later = is
first_case g r false o p is later = later is

-- what the first list tells
pub first_told : (xs ys : List Ground) (r : Refusal) → Some r ≡ first_ground xs → Some r ≡ first_ground (xs ++ ys)
first_told [] ys r is = absurd (cc)
first_told (x ∷ xs) ys r is = first_case x.0 r x.1 (first_ground xs) (first_ground (xs ++ ys)) is (first_told xs ys r)

next_case : (g : Refusal) (t : Bool) (o p q : Option Refusal) → None ≡ cond t (Some g) o → (None ≡ o → p ≡ q) → p ≡ cond t (Some g) q
next_case g true o p q is later = absurd (cc)
next_case g false o p q is later = later is

-- what the second list tells, where the first tells nothing
pub next_told : (xs ys : List Ground) → None ≡ first_ground xs → first_ground ys ≡ first_ground (xs ++ ys)
next_told [] ys is = refl
next_told (x ∷ xs) ys is = next_case x.0 x.1 (first_ground xs) (first_ground ys) (first_ground (xs ++ ys)) is (next_told xs ys)
