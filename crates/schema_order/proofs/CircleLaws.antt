-- A graph whose nodes are numbered anew has a circle where the graph had one.
use Rattle.std.proofs.Common.{◌≡◌, ℕ, zero, suc, ◌+◌, ◌<◌, Bool, true, false, ◌||◌, List, [], ◌∷◌, length, map, zip, refl, ap, ◌∙◌, ◌⊎◌, inl, inr, ⊎_elim, arith, is_some, zero-add}
use Rattle.std.specs.List.{list_any, range_with_len}
use Rattle.std.proofs.lemmas.Bool.{false≢true}
use Rattle.std.proofs.lemmas.List.FromFn.{length-map-range_with_len}
use Rattle.digraph.specs.Walks.{Graph, leads, IsWalk, reaches, circled, has_circle}
use Rattle.digraph.specs.Laws.{WalksAreDecided}
use Rattle.schema_circles.specs.Marked.{marked_line, least_marked}
use Rattle.schema_order.proofs.FaultLaws.{some_least}

-- ---- a list in which some item passes

pub or_left : (a b : Bool) → a ≡ true → (a || b) ≡ true
or_left a b h = ap (λ c. c || b) h

pub or_right : (a b : Bool) → b ≡ true → (a || b) ≡ true
or_right true b h = refl
or_right false b h = h

pub or_either : (a b : Bool) → (a || b) ≡ true → (a ≡ true) ⊎ (b ≡ true)
or_either true b h = inl refl
or_either false b h = inr h

any_in_range : (p : ℕ → Bool) (s n : ℕ) → list_any p (range_with_len s n) ≡ true → (a : ℕ) × (p a ≡ true)
any_in_range p s zero h = absurd (false≢true h)
any_in_range p s (suc n) h =
    ⊎_elim (λ here. (s, here)) (λ behind. any_in_range p (s + 1) n behind) (or_either (p s) (list_any p (range_with_len (s + 1) n)) h)

any_from : (p : ℕ → Bool) (s n a : ℕ) → a < n → p (s + a) ≡ true → list_any p (range_with_len s n) ≡ true
any_from p s zero a l h = absurd (omega arith)
any_from p s (suc n) zero l h = let same : s + 0 ≡ s = omega arith in or_left (p s) (list_any p (range_with_len (s + 1) n)) (rw same at h)
any_from p s (suc n) (suc a) l h =
    let same : s + suc a ≡ (s + 1) + a = omega arith in
    or_right (p s) (list_any p (range_with_len (s + 1) n)) (any_from p (s + 1) n a (omega arith) (rw same at h))

-- ---- circles

within : (graph : Graph) (a b : ℕ) → leads graph a b ≡ true → a < length graph
within [] a b h = absurd (false≢true h)
within (nodes ∷ graph) zero b h = omega arith
within (nodes ∷ graph) (suc a) b h = let l : a < length graph = within graph a b h in omega arith

walk_within : (graph : Graph) (a : ℕ) (between : List ℕ) (b : ℕ) → IsWalk graph a between b → a < length graph
walk_within graph a [] b walk = within graph a b walk
walk_within graph a (c ∷ between) b walk = within graph a c walk.0

module _ (decided : WalksAreDecided) (graph other : Graph) (moved : ℕ → ℕ)
    (step : (a b : ℕ) → leads graph a b ≡ true → leads other (moved a) (moved b) ≡ true) where
  moved_walk : (a : ℕ) (between : List ℕ) (b : ℕ) → IsWalk graph a between b → IsWalk other (moved a) (map moved between) (moved b)
  moved_walk a [] b walk = step a b walk
  moved_walk a (c ∷ between) b walk = (step a c walk.0, moved_walk c between b walk.1)

  pub moved_circle : has_circle graph ≡ true → has_circle other ≡ true
  moved_circle h =
      let found = any_in_range (λ a. reaches graph a a) 0 (length graph) h in
      let a = found.0 in
      let walk = (decided graph a a).0 found.1 in
      let there = moved_walk a walk.0 a walk.1 in
      let node : moved a < length other = walk_within other (moved a) (map moved walk.0) (moved a) there in
      let round : reaches other (moved a) (moved a) ≡ true = (decided other (moved a) (moved a)).1 (map moved walk.0, there) in
      any_from (λ x. reaches other x x) 0 (length other) (moved a) node (ap (λ x. reaches other x x) (zero-add (moved a)) ∙ round)

-- ---- a marked line is there where a node is on a circle

some_marked : (mark : Bool) (line : ℕ) → is_some (marked_line (mark, line)) ≡ mark
some_marked true line = refl
some_marked false line = refl

any_marked : (marks : List Bool) (lines : List ℕ) → length marks ≡ length lines
    → list_any (λ p. is_some (marked_line p)) (zip marks lines) ≡ list_any (λ m. m) marks
any_marked [] lines e = refl
any_marked (m ∷ marks) [] e = absurd (omega arith)
any_marked (m ∷ marks) (l ∷ lines) e =
    ap (λ b. b || list_any (λ p. is_some (marked_line p)) (zip marks lines)) (some_marked m l)
    ∙ ap (λ b. m || b) (any_marked marks lines (omega arith))

any_map : {X : Type 0} (f : X → Bool) (xs : List X) → list_any (λ m. m) (map f xs) ≡ list_any f xs
any_map f [] = refl
any_map f (x ∷ xs) = ap (λ b. f x || b) (any_map f xs)

pub some_circled : (graph : Graph) (lines : List ℕ) → length graph ≡ length lines → is_some (least_marked (circled graph) lines) ≡ has_circle graph
some_circled graph lines e =
    some_least marked_line (zip (circled graph) lines)
    ∙ any_marked (circled graph) lines (length-map-range_with_len (λ a. reaches graph a a) 0 (length graph) ∙ e)
    ∙ any_map (λ a. reaches graph a a) (range_with_len 0 (length graph))
