-- Behind its end, and behind a byte that can't stand, no place is within a head.
use Rattle.std.proofs.Common.{◌≡◌, ℕ, ◌+◌, ◌<◌, List, [], ◌∷◌, ◌++◌, length, drop, get_or, fold, None, Some, refl, ap, sym, ◌∙◌}
use Rattle.std.proofs.lemmas.List.{drop_more}
use Rattle.std.proofs.lemmas.List.Sums.{fold-append}
use Rattle.head_scan.specs.Places.{place_step, step_after, placed, place_of}
use Rattle.head_scan.specs.declared.place.Place.{Place}
use Rattle.head_scan.specs.declared.place.Step.{Step}
use Rattle.head_scan.specs.declared.place.Step.TheVariants.{Stands, Ends, Fails}

left_failed : (bytes : List ℕ) → place_of (fold step_after Fails bytes) ≡ None
left_failed [] = refl
left_failed (b ∷ bytes) = left_failed bytes

-- what has left a head stays out of it
stays_left : (step : Step) (bytes : List ℕ) → place_of step ≡ None → place_of (fold step_after step bytes) ≡ None
stays_left (Stands place) bytes left = cc
stays_left Ends [] left = refl
stays_left Ends (b ∷ bytes) left = left_failed bytes
stays_left Fails bytes left = left_failed bytes

pub left-append : (from : Place) (seen bytes : List ℕ) → place_of (placed from seen) ≡ None → place_of (placed from (seen ++ bytes)) ≡ None
left-append from seen bytes left = ap place_of (fold-append step_after (Stands from) seen bytes) ∙ stays_left (placed from seen) bytes left

placed_by : (from : Place) (seen bytes : List ℕ) (place : Place) (step : Step) → placed from seen ≡ step → Some place ≡ place_of step → placed from (seen ++ bytes) ≡ placed place bytes
placed_by from seen bytes place (Stands at) is same = let one : place ≡ at = cc in fold-append step_after (Stands from) seen bytes ∙ ap (λ s. fold step_after s bytes) is ∙ ap (λ p. placed p bytes) (sym one)
placed_by from seen bytes place Ends is same = cc
placed_by from seen bytes place Fails is same = cc

-- further bytes from where bytes have led
pub placed-append : (from : Place) (seen bytes : List ℕ) (place : Place) → Some place ≡ place_of (placed from seen) → placed from (seen ++ bytes) ≡ placed place bytes
placed-append from seen bytes place = placed_by from seen bytes place (placed from seen) refl

-- a byte that leaves the head
pub leaves : (place : Place) (bytes : List ℕ) (i : ℕ) (step : Step) → i < length bytes → place_step place (get_or bytes i 0) ≡ step → place_of step ≡ None → place_of (placed place (drop i bytes)) ≡ None
leaves place bytes i step within is left =
    ap (λ s. place_of (placed place s)) (drop_more bytes i 0 within) ∙ ap (λ s. place_of (fold step_after s (drop (i + 1) bytes))) is ∙ stays_left step (drop (i + 1) bytes) left
