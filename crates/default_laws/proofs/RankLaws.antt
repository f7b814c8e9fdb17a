-- Ranks in a graph without circles.
use Rattle.std.proofs.Common.{◌≡◌, ℕ, zero, suc, ◌<◌, ◌≤◌, ◌+◌, Bool, true, false, List, [], ◌∷◌, length, cond, refl, ap, sym, ◌∙◌, arith, zero-add}
use Rattle.std.specs.List.{count_by, range_with_len}
use Rattle.std.proofs.lemmas.Bool.{both_ways, false_from_ne_true}
use Rattle.std.proofs.lemmas.List.Sums.{count_by-le-length, sum_by-cons}
use Rattle.std.proofs.lemmas.List.FromFn.{length-range_with_len}
use Rattle.digraph.specs.Walks.{Graph, reaches}
use Rattle.digraph.specs.Laws.{WalksAreDecided}
use Rattle.default_laws.specs.Ranks.{HasNoCircle, FallsAlongSteps, IsBelowNodes, RanksFall}

-- where one test passes, the other passes
abbrev Implies : (ℕ → Bool) → (ℕ → Bool) → Type 0
Implies p q = (x : ℕ) → p x ≡ true → q x ≡ true

one_le : (p q : Bool) → (p ≡ true → q ≡ true) → cond p 1 0 ≤ cond q 1 0
one_le true true h = omega arith
one_le true false h = absurd (both_ways false refl (h refl))
one_le false true h = omega arith
one_le false false h = omega arith

count_first : (p : ℕ → Bool) (x : ℕ) (xs : List ℕ) → count_by p (x ∷ xs) ≡ cond (p x) 1 0 + count_by p xs
count_first p x xs = sum_by-cons (λ (b : ℕ). cond (p b) 1 0) x xs

count_least : (p q : ℕ → Bool) (xs : List ℕ) → Implies p q → count_by p xs ≤ count_by q xs
count_least p q [] h = omega arith
count_least p q (x ∷ xs) h =
    let here = one_le (p x) (q x) (h x) in
    let more = count_least p q xs h in
    omega (arith, count_first p x xs, count_first q x xs)

one_less : (p q : Bool) → p ≡ false → q ≡ true → cond p 1 0 < cond q 1 0
one_less p q fails passes = rw (fails, passes) (omega arith)

-- a test passes more often where it passes once more
count_less : (p q : ℕ → Bool) (s n b : ℕ) → Implies p q → b < n → p (s + b) ≡ false → q (s + b) ≡ true
    → count_by p (range_with_len s n) < count_by q (range_with_len s n)
count_less p q s zero b h l fails passes = absurd (omega arith)
count_less p q s (suc n) zero h l fails passes =
    let same : s + 0 ≡ s = omega arith in
    let here = one_less (p s) (q s) (ap p (sym same) ∙ fails) (ap q (sym same) ∙ passes) in
    let more = count_least p q (range_with_len (s + 1) n) h in
    omega (arith, count_first p s (range_with_len (s + 1) n), count_first q s (range_with_len (s + 1) n))
count_less p q s (suc n) (suc b) h l fails passes =
    let same : s + suc b ≡ (s + 1) + b = omega arith in
    let here = one_le (p s) (q s) (h s) in
    let more = count_less p q (s + 1) n b h (omega arith) (ap p (sym same) ∙ fails) (ap q (sym same) ∙ passes) in
    omega (arith, count_first p s (range_with_len (s + 1) n), count_first q s (range_with_len (s + 1) n))

apart : WalksAreDecided → (graph : Graph) → HasNoCircle graph → (a : ℕ) → reaches graph a a ≡ false
apart decided graph none a = false_from_ne_true (reaches graph a a) (λ yes. none a ((decided graph a a).0 yes))

falls : WalksAreDecided → (graph : Graph) → HasNoCircle graph → FallsAlongSteps graph
falls decided graph none a b step l =
    count_less (reaches graph b) (reaches graph a) 0 (length graph) b
    (λ x yes. let walk = (decided graph b x).0 yes in (decided graph a x).1 (b ∷ walk.0, (step, walk.1)))
    l
    (ap (reaches graph b) (zero-add b) ∙ apart decided graph none b)
    (ap (reaches graph a) (zero-add b) ∙ (decided graph a b).1 ([], step))

below : WalksAreDecided → (graph : Graph) → HasNoCircle graph → IsBelowNodes graph
below decided graph none a l =
    let fewer = count_less (reaches graph a) (λ x. true) 0 (length graph) a (λ x yes. refl) l (ap (reaches graph a) (zero-add a) ∙ apart decided graph none a) refl in
    let most = count_by-le-length (λ (x : ℕ). true) (range_with_len 0 (length graph)) in
    let long = length-range_with_len 0 (length graph) in
    omega arith

pub ranks_fall : WalksAreDecided → RanksFall
ranks_fall decided graph none = (falls decided graph none, below decided graph none)
