-- Nodes that are on no circle, and those that are.
use Rattle.std.proofs.Common.{◌≡◌, ℕ, zero, suc, ◌<◌, ◌≤◌, ◌+◌, Bool, true, false, List, [], ◌∷◌, length, set, get_or, replicate, refl, ap, sym, ◌∙◌, arith, ⊎_elim, ◌⊎◌, inl, inr, nat_eq, add-one, zero-add}
use Rattle.std.specs.List.{list_all, list_any, range_with_len}
use Rattle.std.proofs.lemmas.Bool.{false≢true, both_ways, or_cases, or_left, or_right, or_from, or_parts, and_parts, cond_both, eqb-true, cases_eq, cases_lt, false_from_ne_true}
use Rattle.std.proofs.lemmas.List.{length-set, get_or-set_same, get_or-set_other, get_or_default, get_or_past, length-replicate}
use Rattle.std.proofs.lemmas.List.FromFn.{get_or-map-range_with_len, length-map-range_with_len}
use Rattle.digraph.specs.Clear.{leads_to_marked, marked_more, IsClear}
use Rattle.digraph.specs.Walks.{Graph, is_among, leads, IsWalk, Reaches, reaches, reached_from, successors, has_circle}
use Rattle.digraph.proofs.WalkLaws.{decided, walk_within}

get_replicate : (n i : ℕ) → get_or (replicate n false) i false ≡ false
get_replicate zero i = refl
get_replicate (suc n) zero = refl
get_replicate (suc n) (suc i) = get_replicate n i

-- no marks
pub clear_none : (graph : Graph) → IsClear graph (replicate (length graph) false)
clear_none graph =
    let unmarked = get_replicate (length graph) in
    record {
      size = length-replicate (length graph) false;
      closed = λ a h. absurd (both_ways (get_or (replicate (length graph) false) a false) (unmarked a) h);
      no_circle = λ a h. absurd (both_ways (get_or (replicate (length graph) false) a false) (unmarked a) h);
    }

-- what holds of all items holds of each
each : (P : ℕ → Bool) (bs : List ℕ) (b : ℕ) → list_all P bs ≡ true → is_among b bs ≡ true → P b ≡ true
each P [] b all h = absurd (false≢true h)
each P (c ∷ bs) b all h =
    let parts = and_parts (P c) (list_all P bs) all in
    ⊎_elim (λ here. ap P (eqb-true b c here) ∙ parts.0) (λ there. each P bs b parts.1 there) (or_cases (nat_eq b c) (is_among b bs) h)

led_to : (graph : Graph) (marks : List Bool) (a b : ℕ) → leads_to_marked graph marks a ≡ true → leads graph a b ≡ true → b < length marks → get_or marks b false ≡ true
led_to graph marks a b all h l =
    get_or_default marks b false true l ∙ each (λ (c : ℕ). get_or marks c true) (successors graph a) b all h

-- a walk from a marked node stays among the marked nodes
stays : (graph : Graph) (marks : List Bool) → IsClear graph marks → (a : ℕ) (between : List ℕ) (b : ℕ)
    → get_or marks a false ≡ true → IsWalk graph a between b → b < length graph → get_or marks b false ≡ true
stays graph marks is a [] b from walk l = is.closed a from b walk l
stays graph marks is a (c ∷ between) b from walk l =
    stays graph marks is c between b (is.closed a from c walk.0 (walk_within graph c between b walk.1)) walk.1 l

-- a node that leads to marked nodes alone comes back to itself only if it is marked
back_to : (graph : Graph) (marks : List Bool) → IsClear graph marks → (a : ℕ) → leads_to_marked graph marks a ≡ true
    → (between : List ℕ) → IsWalk graph a between a → a < length graph → get_or marks a false ≡ true
back_to graph marks is a all [] walk l = led_to graph marks a a all walk (rw is.size l)
back_to graph marks is a all (c ∷ between) walk l =
    stays graph marks is c between a (led_to graph marks a c all walk.0 (rw is.size (walk_within graph c between a walk.1))) walk.1 l

is_marked_in : (marks : List Bool) (a b : ℕ) → get_or (set marks a true) b false ≡ true → (b ≡ a) ⊎ (get_or marks b false ≡ true)
is_marked_in marks a b h =
    ⊎_elim (λ same. inl same) (λ other. inr (sym (get_or-set_other marks a b true false other) ∙ h)) (cases_eq b a)

stays_marked : (marks : List Bool) (a b : ℕ) → a < length marks → get_or marks b false ≡ true → get_or (set marks a true) b false ≡ true
stays_marked marks a b l h =
    ⊎_elim (λ (same : b ≡ a). rw same (get_or-set_same marks a true false l)) (λ other. get_or-set_other marks a b true false other ∙ h) (cases_eq b a)

within_marks : (marks : List Bool) (b : ℕ) → get_or marks b false ≡ true → b < length marks
within_marks [] b h = absurd (false≢true h)
within_marks (m ∷ marks) zero h = omega arith
within_marks (m ∷ marks) (suc b) h = let l : b < length marks = within_marks marks b h in omega arith

clear_set : (graph : Graph) (marks : List Bool) (a : ℕ) → IsClear graph marks → a < length marks → leads_to_marked graph marks a ≡ true → IsClear graph (set marks a true)
clear_set graph marks a is l all =
    let size = is.size in
    record {
      size = length-set marks a true ∙ is.size;
      closed = λ x h b step k.
          stays_marked marks a b l
          (⊎_elim
          (λ (same : x ≡ a). led_to graph marks a b all (rw same at step) (omega arith))
          (λ before. is.closed x before b step k)
          (is_marked_in marks a x h));
      no_circle = λ x h walk.
          ⊎_elim
          (λ (same : x ≡ a).
          let round : Reaches graph a a = rw same at walk in
          is.no_circle a (back_to graph marks is a all round.0 round.1 (omega arith)) round)
          (λ before. is.no_circle x before walk)
          (is_marked_in marks a x h);
    }

set_past : (marks : List Bool) (a : ℕ) → length marks ≤ a → set marks a true ≡ marks
set_past [] a l = refl
set_past (m ∷ marks) zero l = absurd (omega arith)
set_past (m ∷ marks) (suc a) l = ap (λ (xs : List Bool). m ∷ xs) (set_past marks a (omega arith))

-- one node more
pub clear_more : (graph : Graph) (marks : List Bool) (a : ℕ) → IsClear graph marks → IsClear graph (marked_more graph marks a)
clear_more graph marks a is =
    cond_both (leads_to_marked graph marks a) (set marks a true) marks (IsClear graph)
    (λ all. ⊎_elim (λ l. clear_set graph marks a is l all) (λ past. rw (set_past marks a past) is) (cases_lt a (length marks)))
    (λ no. is)

-- a clear node isn't on a circle
pub clear_node : (graph : Graph) (marks : List Bool) (a : ℕ) → IsClear graph marks → get_or marks a false ≡ true → false ≡ reaches graph a a
clear_node graph marks a is h =
    sym (false_from_ne_true (reaches graph a a) (λ yes. is.no_circle a h ((decided graph a a).0 yes)))

-- whether a node is among those that it reaches
pub on_itself : (graph : Graph) (a : ℕ) → get_or (reached_from graph a) a false ≡ reaches graph a a
on_itself graph a =
    ⊎_elim
    (λ (l : a < length graph). get_or-map-range_with_len (reaches graph a) 0 (length graph) a a false l (omega arith))
    (λ (past : length graph ≤ a).
    let long : length (reached_from graph a) ≡ length graph = length-map-range_with_len (reaches graph a) 0 (length graph) in
    get_or_past (reached_from graph a) a false (omega arith)
    ∙ sym (false_from_ne_true (reaches graph a a)
    (λ yes. let walk = (decided graph a a).0 yes in let l : a < length graph = walk_within graph a walk.0 a walk.1 in absurd (omega arith))))
    (cases_lt a (length graph))

-- ---- tests over the first numbers

any_from : (P : ℕ → Bool) (s n a : ℕ) → a < n → P (s + a) ≡ true → list_any P (range_with_len s n) ≡ true
any_from P s zero a l h = absurd (omega arith)
any_from P s (suc n) zero l h = let same : s + 0 ≡ s = omega arith in or_left (P s) (list_any P (range_with_len (s + 1) n)) (rw same at h)
any_from P s (suc n) (suc a) l h =
    let same : s + suc a ≡ (s + 1) + a = omega arith in
    or_right (P s) (list_any P (range_with_len (s + 1) n)) (any_from P (s + 1) n a (omega arith) (rw same at h))

-- a node on a circle is found
pub one_circle : (graph : Graph) (a : ℕ) (b : Bool) → b ≡ reaches graph a a → b ≡ true → true ≡ has_circle graph
one_circle graph a b is round =
    let walk = (decided graph a a).0 (sym is ∙ round) in
    sym (any_from (λ x. reaches graph x x) 0 (length graph) a (walk_within graph a walk.0 a walk.1) (ap (λ x. reaches graph x x) (zero-add a) ∙ sym is ∙ round))

none_from : (P : ℕ → Bool) (s n : ℕ) → list_any P (range_with_len s n) ≡ false → P (s + n) ≡ false → list_any P (range_with_len s (suc n)) ≡ false
none_from P s zero before here = let same : s + 0 ≡ s = omega arith in or_from (P s) false (rw same at here) refl
none_from P s (suc n) before here =
    let parts = or_parts (P s) (list_any P (range_with_len (s + 1) n)) before in
    let same : s + suc n ≡ (s + 1) + n = omega arith in
    or_from (P s) (list_any P (range_with_len (s + 1) (suc n))) parts.0 (none_from P (s + 1) n parts.1 (rw same at here))

-- one node more that isn't on a circle
pub none_more : (graph : Graph) (n : ℕ) (b : Bool) → list_any (λ a. reaches graph a a) (range_with_len 0 n) ≡ false → b ≡ reaches graph n n → b ≡ false
    → list_any (λ a. reaches graph a a) (range_with_len 0 (n + 1)) ≡ false
none_more graph n b before is clear =
    ap (λ k. list_any (λ a. reaches graph a a) (range_with_len 0 k)) (add-one n)
    ∙ none_from (λ a. reaches graph a a) 0 n before (ap (λ x. reaches graph x x) (zero-add n) ∙ sym is ∙ clear)
