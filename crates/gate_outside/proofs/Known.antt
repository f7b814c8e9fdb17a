-- Known bytes that grow twice, or are consumed twice.
use Rattle.std.proofs.Common.{ℕ, List, ◌++◌, Option, None, Some, ◌∙◌, ap, sym, append_assoc}
use Rattle.std.specs.Io.KnownBytes.{Appends, Consumes}

pub Appends-trans : (a b c : Option (List ℕ)) (xs ys : List ℕ) → Appends a b xs → Appends b c ys → Appends a c (xs ++ ys)
Appends-trans None b c xs ys p q = tt
Appends-trans (Some a) None c xs ys p q = absurd p
Appends-trans (Some a) (Some b) None xs ys p q = absurd q
Appends-trans (Some a) (Some b) (Some c) xs ys p q = q ∙ ap (λ z. z ++ ys) p ∙ append_assoc a xs ys

pub Consumes-trans : (a b c : Option (List ℕ)) (xs ys : List ℕ) → Consumes a b xs → Consumes b c ys → Consumes a c (xs ++ ys)
Consumes-trans None b c xs ys p q = tt
Consumes-trans (Some a) None c xs ys p q = absurd p
Consumes-trans (Some a) (Some b) None xs ys p q = absurd q
Consumes-trans (Some a) (Some b) (Some c) xs ys p q = rw (p, q) (sym (append_assoc xs ys c))
