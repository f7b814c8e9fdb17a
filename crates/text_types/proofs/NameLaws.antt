-- Distinct names stay distinct with one more, and a front of them lacks the next.
use Rattle.std.proofs.Common.{◌≡◌, ℕ, zero, suc, ◌<◌, List, [], ◌∷◌, ◌++◌, length, take, get_or, bytes_eq, false, subst, sym, arith}
use Rattle.std.specs.List.{IsDistinct, AllByRecursion}
use Rattle.text_types.specs.Names.{names_of, HasDistinctNames, Lacks}

all_push : (P : List ℕ → Type 0) (ns : List (List ℕ)) (n : List ℕ) → AllByRecursion P ns → P n → AllByRecursion P (ns ++ n ∷ [])
all_push P [] n a p = (p, tt)
all_push P (m ∷ ns) n a p = (a.0, all_push P ns n a.1 p)

distinct_push : (ns : List (List ℕ)) (n : List ℕ) → IsDistinct bytes_eq ns → AllByRecursion (λ m. bytes_eq m n ≡ false) ns → IsDistinct bytes_eq (ns ++ n ∷ [])
unfolding IsDistinct
distinct_push [] n d l = (tt, tt)
distinct_push (m ∷ ns) n d l = (all_push (λ y. bytes_eq m y ≡ false) ns n d.0 l.0, distinct_push ns n d.1 l.1)

names_push : {X : Type 0} (ps : List (List ℕ × X)) (p : List ℕ × X) → names_of (ps ++ p ∷ []) ≡ names_of ps ++ p.0 ∷ []
names_push [] p = λ i. p.0 ∷ []
names_push (q ∷ ps) p = λ i. q.0 ∷ names_push ps p i

pub HasDistinctNames-push : {X : Type 0} (ps : List (List ℕ × X)) (p : List ℕ × X) → HasDistinctNames ps → Lacks ps p.0 → HasDistinctNames (ps ++ p ∷ [])
HasDistinctNames-push ps p d l = subst (IsDistinct bytes_eq) (sym (names_push ps p)) (distinct_push (names_of ps) p.0 d l)

pub HasDistinctNames-nil : IsDistinct bytes_eq []
unfolding IsDistinct
HasDistinctNames-nil = tt

all_at : {X : Type 0} (P : List ℕ → Type 0) (ps : List (List ℕ × X)) (i : ℕ) (p : List ℕ × X) → i < length ps → AllByRecursion P (names_of ps) → P (get_or ps i p).0
all_at P [] i p h a = absurd (omega arith)
all_at P (q ∷ ps) zero p h a = a.0
all_at P (q ∷ ps) (suc i) p h a = all_at P ps i p (omega arith) a.1

-- the pairs before the one at `i` lack its name
pub Lacks-take : {X : Type 0} (ps : List (List ℕ × X)) (i : ℕ) (p : List ℕ × X) → i < length ps → HasDistinctNames ps → Lacks (take i ps) (get_or ps i p).0
unfolding IsDistinct
Lacks-take [] i p h d = absurd (omega arith)
Lacks-take (q ∷ ps) zero p h d = tt
Lacks-take (q ∷ ps) (suc i) p h d = (all_at (λ n. bytes_eq q.0 n ≡ false) ps i p (omega arith) d.0, Lacks-take ps i p (omega arith) d.1)
