-- Walks, and the test on them.
use Rattle.std.proofs.Common.{◌≡◌, ℕ, zero, suc, ◌<◌, true, ◌&&◌, List, [], ◌∷◌, ◌++◌, length, ⊎_elim, ◌⊎◌, inl, inr, refl, arith}
use Rattle.std.proofs.lemmas.Bool.{false≢true, or_cases, or_left, or_right, and_parts, and_from}
use Rattle.digraph.specs.Laws.{WalksAreDecided}
use Rattle.digraph.specs.Walks.{Graph, leads, IsWalk, Reaches, reaches_below, reaches}

-- a walk behind a walk
joined_walk : (graph : Graph) (a : ℕ) (before : List ℕ) (k : ℕ) (behind : List ℕ) (b : ℕ)
    → IsWalk graph a before k → IsWalk graph k behind b → IsWalk graph a (before ++ k ∷ behind) b
joined_walk graph a [] k behind b first second = (first, second)
joined_walk graph a (c ∷ before) k behind b first second = (first.0, joined_walk graph c before k behind b first.1 second)

pub joined : (graph : Graph) (a k b : ℕ) → Reaches graph a k → Reaches graph k b → Reaches graph a b
joined graph a k b first second = (first.0 ++ k ∷ second.0, joined_walk graph a first.0 k second.0 b first.1 second.1)

-- what leads on is a node
within : (graph : Graph) (a b : ℕ) → leads graph a b ≡ true → a < length graph
within [] a b h = absurd (false≢true h)
within (nodes ∷ graph) zero b h = omega arith
within (nodes ∷ graph) (suc a) b h = let l : a < length graph = within graph a b h in omega arith

pub walk_within : (graph : Graph) (a : ℕ) (between : List ℕ) (b : ℕ) → IsWalk graph a between b → a < length graph
walk_within graph a [] b walk = within graph a b walk
walk_within graph a (c ∷ between) b walk = within graph a c walk.0

-- the test says no more than the walks
sound : (graph : Graph) (k a b : ℕ) → reaches_below graph k a b ≡ true → Reaches graph a b
unfolding reaches_below
sound graph zero a b h = ([], h)
sound graph (suc k) a b h =
    ⊎_elim
    (λ without. sound graph k a b without)
    (λ through. let parts = and_parts (reaches_below graph k a k) (reaches_below graph k k b) through in
    joined graph a k b (sound graph k a k parts.0) (sound graph k k b parts.1))
    (or_cases (reaches_below graph k a b) (reaches_below graph k a k && reaches_below graph k k b) h)

-- a step is a walk
step_below : (graph : Graph) (k a b : ℕ) → leads graph a b ≡ true → reaches_below graph k a b ≡ true
unfolding reaches_below
step_below graph zero a b h = h
step_below graph (suc k) a b h = or_left (reaches_below graph k a b) (reaches_below graph k a k && reaches_below graph k k b) (step_below graph k a b h)

-- the two ways from a node to another
without : (graph : Graph) (k a b : ℕ) → reaches_below graph k a b ≡ true → reaches_below graph (suc k) a b ≡ true
unfolding reaches_below
without graph k a b h = or_left (reaches_below graph k a b) (reaches_below graph k a k && reaches_below graph k k b) h

across : (graph : Graph) (k a b : ℕ) → reaches_below graph k a k ≡ true → reaches_below graph k k b ≡ true → reaches_below graph (suc k) a b ≡ true
unfolding reaches_below
across graph k a b to from =
    or_right (reaches_below graph k a b) (reaches_below graph k a k && reaches_below graph k k b)
    (and_from (reaches_below graph k a k) (reaches_below graph k k b) to from)

ways : (graph : Graph) (k a b : ℕ) → reaches_below graph (suc k) a b ≡ true
    → (reaches_below graph k a b ≡ true) ⊎ ((reaches_below graph k a k ≡ true) × (reaches_below graph k k b ≡ true))
unfolding reaches_below
ways graph k a b h =
    ⊎_elim (λ x. inl x) (λ x. inr (and_parts (reaches_below graph k a k) (reaches_below graph k k b) x))
    (or_cases (reaches_below graph k a b) (reaches_below graph k a k && reaches_below graph k k b) h)

-- to the last node in one way or another is to it without it
to_last : (graph : Graph) (k a : ℕ) → reaches_below graph (suc k) a k ≡ true → reaches_below graph k a k ≡ true
to_last graph k a h = ⊎_elim (λ x. x) (λ x. x.0) (ways graph k a k h)

from_last : (graph : Graph) (k b : ℕ) → reaches_below graph (suc k) k b ≡ true → reaches_below graph k k b ≡ true
from_last graph k b h = ⊎_elim (λ x. x) (λ x. x.1) (ways graph k k b h)

-- walks whose nodes between are below `k` may meet at a node below `k`
meeting : (graph : Graph) (k a c b : ℕ) → c < k → reaches_below graph k a c ≡ true → reaches_below graph k c b ≡ true → reaches_below graph k a b ≡ true
meeting graph zero a c b l first second = absurd (omega arith)
meeting graph (suc k) a c b l first second =
    ⊎_elim
    (λ (same : c ≡ k). across graph k a b
    (to_last graph k a (rw same at first))
    (from_last graph k b (rw same at second)))
    (λ (less : c < k).
    ⊎_elim
    (λ one. ⊎_elim
    (λ two. without graph k a b (meeting graph k a c b less one two))
    (λ two. across graph k a b (meeting graph k a c k less one two.0) two.1)
    (ways graph k c b second))
    (λ one. ⊎_elim
    (λ two. across graph k a b one.0 (meeting graph k k c b less one.1 two))
    (λ two. across graph k a b one.0 two.1)
    (ways graph k c b second))
    (ways graph k a c first))
    (split c k l)
  where
    split : (c k : ℕ) → c < suc k → (c ≡ k) ⊎ (c < k)
    split zero zero l = inl refl
    split zero (suc k) l = inr (omega arith)
    split (suc c) zero l = absurd (omega arith)
    split (suc c) (suc k) l = ⊎_elim (λ same. inl (omega arith)) (λ less. inr (omega arith)) (split c k (omega arith))

-- the test says no less
complete : (graph : Graph) (a : ℕ) (between : List ℕ) (b : ℕ) → IsWalk graph a between b → reaches graph a b ≡ true
complete graph a [] b walk = step_below graph (length graph) a b walk
complete graph a (c ∷ between) b walk =
    meeting graph (length graph) a c b (walk_within graph c between b walk.1)
    (step_below graph (length graph) a c walk.0)
    (complete graph c between b walk.1)

pub decided : WalksAreDecided
decided graph a b = (sound graph (length graph) a b, λ walk. complete graph a walk.0 b walk.1)
