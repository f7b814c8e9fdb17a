-- What stands for a history, and how it changes with the history.
use Rattle.std.proofs.Common.{◌≡◌, ◌≢◌, ℕ, zero, suc, ◌-◌, ◌≤◌, List, [], ◌∷◌, refl, ap, arith, set}
use Rattle.cache_model.specs.declared.write.Write.{Write}
use Rattle.cache_model.specs.declared.kind.Kind.{Kind}
use Rattle.cache_model.specs.History.{History, filled, flattened}

-- two places of a list are set in either order
pub sets_commute : {X : Type 0} (xs : List X) (i j : ℕ) (x y : X) → i ≢ j → set (set xs i x) j y ≡ set (set xs j y) i x
sets_commute [] i j x y n = refl
sets_commute (z ∷ zs) zero zero x y n = absurd (n refl)
sets_commute (z ∷ zs) zero (suc j) x y n = refl
sets_commute (z ∷ zs) (suc i) zero x y n = refl
sets_commute {X} (z ∷ zs) (suc i) (suc j) x y n = ap (λ (ws : List X). z ∷ ws) (sets_commute zs i j x y (λ e. n (ap suc e)))

pub fills_commute : (h : History) (t u : ℕ) (ws vs : List Write) (k j : Kind) → 1 ≤ t → 1 ≤ u → t ≢ u → filled (filled h t ws k) u vs j ≡ filled (filled h u vs j) t ws k
fills_commute h t u ws vs k j a b n = sets_commute h (t - 1) (u - 1) _ _ (λ e. n (omega arith))

pub fills_commute_flattened : (h : History) (t u : ℕ) (ws vs : List Write) (k j : Kind) → 1 ≤ t → 1 ≤ u → t ≢ u → (e f : List ℕ) → flattened (filled (filled h t ws k) u vs j) e f ≡ flattened (filled (filled h u vs j) t ws k) e f
fills_commute_flattened h t u ws vs k j a b n e f = ap (λ (g : History). flattened g e f) (fills_commute h t u ws vs k j a b n)
