-- What holds of both branches of a choice holds of the choice.
use Rattle.std.proofs.Common.{◌≡◌, Bool, true, false, cond, refl}

pub choice : {X : Type 0} (P : X → Type 0) (c : Bool) (x y : X) → (c ≡ true → P x) → (c ≡ false → P y) → P (cond c x y)
choice P true x y t f = t refl
choice P false x y t f = f refl
