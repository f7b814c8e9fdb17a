-- What a search finds.
use Rattle.std.proofs.Common.{◌≡◌, ℕ, suc, ◌<◌, ◌≤◌, ◌+◌, Bool, true, false, not, List, [], ◌∷◌, ◌++◌, length, take, get_or, refl, ap, sym, ◌∙◌, arith, ⊎_elim, ◌⊎◌, inl, inr, nat_eq, nat_lt, eq-eqb, append-nil, append_assoc, subst, le_refl, add-one, ◌-◌, Some, None, slice_get}
use Rattle.std.specs.List.{fold}
use Rattle.std.proofs.lemmas.Bool.{false≢true, both_ways, or_cases, or_left, or_right, and_cases, eqb-true, cond_both, cases_Bool, not-false, lt-ltb, false_from_ne_true}
use Rattle.std.proofs.lemmas.List.{take-append-le, take_all, length-append}
use Rattle.std.proofs.lemmas.List.FromFn.{fill_by_all}
use Rattle.digraph.specs.Searches.{is_new, noted, IsMarked}
use Rattle.digraph.specs.Walks.{Graph, is_among, leads, IsWalk, Reaches, reaches, successors, reached_from}
use Rattle.digraph.proofs.ListLaws.{among_front, among_back, among_either, among_one, among_one_is, take_one_more, among_at, got, got_none}
use Rattle.digraph.proofs.WalkLaws.{joined, decided, walk_within}

-- ---- one node

note_keeps : (n : ℕ) (found : List ℕ) (b c : ℕ) → is_among c found ≡ true → is_among c (noted n found b) ≡ true
note_keeps n found b c h =
    cond_both (is_new n found b) (found ++ b ∷ []) found (λ (zs : List ℕ). is_among c zs ≡ true)
    (λ new. among_front c found (b ∷ []) h) (λ old. h)

old_is_found : (n : ℕ) (found : List ℕ) (b : ℕ) → b < n → is_new n found b ≡ false → is_among b found ≡ true
old_is_found n found b l old =
    ⊎_elim
    (λ beyond. absurd (both_ways (nat_lt b n) beyond (lt-ltb b n l)))
    (λ known. not-false (is_among b found) known)
    (and_cases (nat_lt b n) (not (is_among b found)) old)

note_has : (n : ℕ) (found : List ℕ) (b : ℕ) → b < n → is_among b (noted n found b) ≡ true
note_has n found b l =
    cond_both (is_new n found b) (found ++ b ∷ []) found (λ (zs : List ℕ). is_among b zs ≡ true)
    (λ new. among_back b found (b ∷ []) (among_one b)) (λ old. old_is_found n found b l old)

note_only : (n : ℕ) (found : List ℕ) (b c : ℕ) → is_among c (noted n found b) ≡ true → (is_among c found ≡ true) ⊎ (c ≡ b)
note_only n found b c =
    cond_both (is_new n found b) (found ++ b ∷ []) found (λ (zs : List ℕ). is_among c zs ≡ true → (is_among c found ≡ true) ⊎ (c ≡ b))
    (λ new h. ⊎_elim (λ front. inl front) (λ back. inr (among_one_is c b back)) (among_either c found (b ∷ []) h))
    (λ old h. inl h)

note_extends : (n : ℕ) (found : List ℕ) (b : ℕ) → (more : List ℕ) × (noted n found b ≡ found ++ more)
note_extends n found b =
    cond_both (is_new n found b) (found ++ b ∷ []) found (λ (zs : List ℕ). (more : List ℕ) × (zs ≡ found ++ more))
    (λ new. (b ∷ [], refl)) (λ old. ([], sym (append-nil found)))

-- ---- many nodes

pub keeps : (n : ℕ) (bs found : List ℕ) (c : ℕ) → is_among c found ≡ true → is_among c (fold (noted n) found bs) ≡ true
keeps n [] found c h = h
keeps n (b ∷ bs) found c h = keeps n bs (noted n found b) c (note_keeps n found b c h)

pub has : (n : ℕ) (bs found : List ℕ) (c : ℕ) → c < n → is_among c bs ≡ true → is_among c (fold (noted n) found bs) ≡ true
has n [] found c l h = absurd (false≢true h)
has n (b ∷ bs) found c l h =
    ⊎_elim
    (λ here. keeps n bs (noted n found b) c (rw (← eqb-true c b here) (note_has n found c l)))
    (λ there. has n bs (noted n found b) c l there)
    (or_cases (nat_eq c b) (is_among c bs) h)

pub only : (n : ℕ) (bs found : List ℕ) (c : ℕ) → is_among c (fold (noted n) found bs) ≡ true → (is_among c found ≡ true) ⊎ (is_among c bs ≡ true)
only n [] found c h = inl h
only n (b ∷ bs) found c h =
    ⊎_elim
    (λ before. ⊎_elim
    (λ front. inl front)
    (λ (same : c ≡ b). inr (or_left (nat_eq c b) (is_among c bs) (eq-eqb c b same)))
    (note_only n found b c before))
    (λ behind. inr (or_right (nat_eq c b) (is_among c bs) behind))
    (only n bs (noted n found b) c h)

pub extends : (n : ℕ) (bs found : List ℕ) → (more : List ℕ) × (fold (noted n) found bs ≡ found ++ more)
extends n [] found = ([], sym (append-nil found))
extends n (b ∷ bs) found =
    let one = note_extends n found b in
    let rest = extends n bs (noted n found b) in
    (one.0 ++ rest.0, rest.1 ∙ ap (λ (zs : List ℕ). zs ++ rest.0) one.1 ∙ append_assoc found one.0 rest.0)

pub front_stays : (n : ℕ) (bs found : List ℕ) (i : ℕ) → i ≤ length found → take i (fold (noted n) found bs) ≡ take i found
front_stays n bs found i l =
    let more = extends n bs found in
    ap (take i) more.1 ∙ take-append-le i found more.0 l

pub grows : (n : ℕ) (bs found : List ℕ) → length found ≤ length (fold (noted n) found bs)
grows n bs found =
    let more = extends n bs found in
    let longer : length (fold (noted n) found bs) ≡ length found + length more.0 = ap length more.1 ∙ length-append found more.0 in
    omega arith

-- ---- a search from a node, of which the nodes found before a place have been gone through

pub record IsUnderWay (graph : Graph) (start : ℕ) (found : List ℕ) (at : ℕ) : Type 0 where
  pub reached : (b : ℕ) → is_among b found ≡ true → Reaches graph start b
  pub began : (b : ℕ) → leads graph start b ≡ true → b < length graph → is_among b found ≡ true
  pub gone_through : (a : ℕ) → is_among a (take at found) ≡ true → (b : ℕ) → leads graph a b ≡ true → b < length graph → is_among b found ≡ true
  pub place : at ≤ length found

pub begin : (graph : Graph) (start : ℕ) → IsUnderWay graph start (fold (noted (length graph)) [] (successors graph start)) 0
begin graph start = record {
  reached = λ b h. ⊎_elim (λ front. absurd (false≢true front)) (λ step. ([], step)) (only (length graph) (successors graph start) [] b h);
  began = λ b h l. has (length graph) (successors graph start) [] b l h;
  gone_through = λ a h. absurd (false≢true h);
  place = omega arith;
}

pub go_on : (graph : Graph) (start : ℕ) (found : List ℕ) (at : ℕ) → IsUnderWay graph start found at → at < length found
    → IsUnderWay graph start (fold (noted (length graph)) found (successors graph (get_or found at 0))) (suc at)
go_on graph start found at way l =
    let n = length graph in
    let a = get_or found at 0 in
    let all = fold (noted n) found (successors graph a) in
    let front : take (suc at) all ≡ take at found ++ a ∷ [] = front_stays n (successors graph a) found (suc at) (omega arith) ∙ take_one_more found at l in
    let long = grows n (successors graph a) found in
    record {
      reached = λ b h. ⊎_elim
          (λ before. way.reached b before)
          (λ step. joined graph start a b (way.reached a (among_at found at l)) ([], step))
          (only n (successors graph a) found b h);
      began = λ b h k. keeps n (successors graph a) found b (way.began b h k);
      gone_through = λ c h b step k. ⊎_elim
          (λ before. keeps n (successors graph a) found b (way.gone_through c before b step k))
          (λ here. let same : c ≡ a = among_one_is c a here in has n (successors graph a) found b k (rw same at step))
          (among_either c (take at found) (a ∷ []) (rw front at h));
      place = omega arith;
    }

-- ---- the end of a search

next_found : (graph : Graph) (start : ℕ) (found : List ℕ) → IsUnderWay graph start found (length found)
    → (a b : ℕ) → (a ≡ start) ⊎ (is_among a found ≡ true) → leads graph a b ≡ true → b < length graph → is_among b found ≡ true
next_found graph start found way a b from step l =
    ⊎_elim
    (λ (same : a ≡ start). way.began b (rw same at step) l)
    (λ there. way.gone_through a (ap (is_among a) (take_all (length found) found (le_refl (length found))) ∙ there) b step l)
    from

closed : (graph : Graph) (start : ℕ) (found : List ℕ) → IsUnderWay graph start found (length found)
    → (a : ℕ) (between : List ℕ) (b : ℕ) → (a ≡ start) ⊎ (is_among a found ≡ true) → IsWalk graph a between b → b < length graph → is_among b found ≡ true
closed graph start found way a [] b from walk l = next_found graph start found way a b from walk l
closed graph start found way a (c ∷ between) b from walk l =
    closed graph start found way c between b (inr (next_found graph start found way a c from walk.0 (walk_within graph c between b walk.1))) walk.1 l

same_truth : (a b : Bool) → (a ≡ true → b ≡ true) → (b ≡ true → a ≡ true) → a ≡ b
same_truth a b there back =
    ⊎_elim
    (λ yes. yes ∙ sym (there yes))
    (λ no. no ∙ sym (false_from_ne_true b (λ yes. both_ways a no (back yes))))
    (cases_Bool a)

-- the nodes found are those that the node reaches
pub at_end : (graph : Graph) (start : ℕ) (found : List ℕ) (at : ℕ) → IsUnderWay graph start found at → length found ≤ at
    → (b : ℕ) → b < length graph → is_among b found ≡ reaches graph start b
at_end graph start found at way l b k =
    let place = way.place in
    let same : at ≡ length found = omega arith in
    same_truth (is_among b found) (reaches graph start b)
    (λ there. (decided graph start b).1 (way.reached b there))
    (λ yes. let walk = (decided graph start b).0 yes in closed graph start found (subst (IsUnderWay graph start found) same way) start walk.0 b (inl refl) walk.1 k)

pub marks_at_end : (graph : Graph) (start : ℕ) (marks : List Bool) (found : List ℕ) (at : ℕ) → IsMarked marks found → length marks ≡ length graph
    → IsUnderWay graph start found at → length found ≤ at → marks ≡ reached_from graph start
marks_at_end graph start marks found at is long way l =
    fill_by_all (reaches graph start) marks (length graph) false long
    (λ b k. is.told b (omega arith) ∙ at_end graph start found at way l b k)

-- ---- the turns of the loop, over what the calls tell

-- a state of a search: the nodes found, and the number of nodes
abbrev pub State : Type 0
State = List ℕ × ℕ

pub begun : (graph : Graph) (start : ℕ) (s t : State) (n : ℕ) (nodes : List ℕ)
    → s ≡ ([], n) → n ≡ length graph → nodes ≡ successors graph start → t ≡ (fold (noted s.1) s.0 nodes, s.1)
    → IsUnderWay graph start t.0 0 × (t.1 ≡ length graph)
begun graph start s t n nodes empty size led noted_all =
    let is : t ≡ (fold (noted (length graph)) [] (successors graph start), length graph) =
    noted_all
    ∙ ap (λ (z : State). (fold (noted z.1) z.0 nodes, z.1)) empty
    ∙ ap (λ (m : ℕ). (fold (noted m) [] nodes, m)) size
    ∙ ap (λ (xs : List ℕ). (fold (noted (length graph)) [] xs, length graph)) led in
    (subst (λ (z : State). IsUnderWay graph start z.0 0) (sym is) (begin graph start), ap (λ (z : State). z.1) is)

pub went_on : (graph : Graph) (start at node : ℕ) (s t : State) (nodes : List ℕ)
    → IsUnderWay graph start s.0 at × (s.1 ≡ length graph) → slice_get s.0 at ≡ Some node
    → nodes ≡ successors graph node → t ≡ (fold (noted s.1) s.0 nodes, s.1)
    → IsUnderWay graph start t.0 (at + 1) × (t.1 ≡ length graph)
went_on graph start at node s t nodes way here led noted_all =
    let found = got s.0 at node here in
    let is : t ≡ (fold (noted (length graph)) s.0 (successors graph (get_or s.0 at 0)), length graph) =
    noted_all
    ∙ ap (λ (m : ℕ). (fold (noted m) s.0 nodes, m)) way.1
    ∙ ap (λ (xs : List ℕ). (fold (noted (length graph)) s.0 xs, length graph)) (led ∙ ap (successors graph) found.1) in (
      subst (λ (z : State). IsUnderWay graph start z.0 (at + 1)) (sym is)
          (subst (IsUnderWay graph start (fold (noted (length graph)) s.0 (successors graph (get_or s.0 at 0)))) (sym (add-one at))
          (go_on graph start s.0 at way.0 found.0)),
      ap (λ (z : State). z.1) is,
    )

pub fewer_left : (graph : Graph) (at node : ℕ) (s : State) (marks : List Bool) (found : List ℕ) → IsMarked marks found → (found, length marks) ≡ s
    → s.1 ≡ length graph → slice_get s.0 at ≡ Some node → length graph - (at + 1) < length graph - at
fewer_left graph at node s marks found is view size here =
    let l : at < length s.0 = (got s.0 at node here).0 in
    let same : length found ≡ length s.0 = ap (λ (z : State). length z.0) view in
    let count = is.count in
    let many : length marks ≡ length graph = ap (λ (z : State). z.1) view ∙ size in
    omega arith

pub ended : (graph : Graph) (start at : ℕ) (s : State) (marks : List Bool) (found : List ℕ) → IsMarked marks found → (found, length marks) ≡ s
    → IsUnderWay graph start s.0 at × (s.1 ≡ length graph) → slice_get s.0 at ≡ None → marks ≡ reached_from graph start
ended graph start at s marks found is view way none =
    let same : found ≡ s.0 = ap (λ (z : State). z.0) view in
    marks_at_end graph start marks found at is (ap (λ (z : State). z.1) view ∙ way.1)
    (subst (λ (xs : List ℕ). IsUnderWay graph start xs at) (sym same) way.0)
    (subst (λ (xs : List ℕ). length xs ≤ at) (sym same) (got_none s.0 at none))
