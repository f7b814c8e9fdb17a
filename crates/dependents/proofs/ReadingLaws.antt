-- The last readings as a finite map, and their places in the index.
use Rattle.std.proofs.Common.{◌≡◌, Option, ℕ, Bool, true, false, not, ◌&&◌, ◌||◌, cond, List, [], ◌∷◌, refl, sym, ◌∙◌, ap, subst, ⊎_elim, Some, None}
use Rattle.std.specs.Option.{option_map}
use Rattle.std.specs.Ordering.{nat_cmp, eq_by_cmp, is_eq}
use Rattle.std.specs.Cmp.{nat_cmp_total, eq_by_cmp_equiv}
use Rattle.std.specs.BTreeMap as tree
use Rattle.std.specs.BTreeMap.{is_at}
use Rattle.std.specs.Map.{lookup}
use Rattle.std.specs.FinMap as map
use Rattle.std.proofs.lemmas.Bool.{false≢true, true≢false, both_ways, cases_Bool, or_cases, cond-true, cond-false, false_from_ne_true}
use Rattle.dependents.specs.declared.place.Place.{Place}
use Rattle.dependents.specs.declared.reading.Reading.{Reading}
use Rattle.dependents.specs.Waking.{VisitedCells}
use Rattle.dependents.specs.Places.{place_of, is_placed, is_current, next_turn, visited_by, dependents_of}
use Rattle.dependents.proofs.PlaceLaws.{same_parts, same_number, number_itself}

abbrev pub cells_of : Reading → VisitedCells
cells_of reading = reading.cells

abbrev Readings : Type 0
Readings = tree.BTreeMap ℕ Reading

mapped : (b : Bool) (reading : Reading) (o : Option Reading) → cond b (Some reading.cells) (option_map cells_of o) ≡ option_map cells_of (cond b (Some reading) o)
mapped true reading o = refl
mapped false reading o = refl

mapped_none : (b : Bool) (o : Option Reading) → option_map cells_of (cond b None o) ≡ cond b None (option_map cells_of o)
mapped_none true o = refl
mapped_none false o = refl

found : (es : List (ℕ × Reading)) (k : ℕ) → map.find nat_cmp k (visited_by es) ≡ option_map cells_of (lookup (is_at (nat_cmp k)) es)
found [] k = refl
found (e ∷ es) k = ap (cond (is_eq (nat_cmp k e.0)) (Some e.1.cells)) (found es k) ∙ mapped (is_eq (nat_cmp k e.0)) e.1 (lookup (is_at (nat_cmp k)) es)

-- the map has the cells of the last reading
pub visited_at : (readings : Readings) (k : ℕ) → map.get (dependents_of readings) k ≡ option_map cells_of (tree.get nat_cmp readings k)
visited_at readings k = map.get-from_entries nat_cmp_total (visited_by readings.entries) k ∙ found readings.entries k

turned : (key k : ℕ) (o p : Option VisitedCells) → cond (is_at (nat_cmp key) k) o p ≡ cond (eq_by_cmp nat_cmp k key) o p
turned key k o p = ap (λ b. cond b o p) ((eq_by_cmp_equiv nat_cmp_total).symm key k)

-- readings that differ in one new reading
pub inserted : (old new : Readings) (sub : ℕ) (reading : Reading)
    → ((k : ℕ) → tree.get nat_cmp new k ≡ cond (is_at (nat_cmp sub) k) (Some reading) (tree.get nat_cmp old k))
    → dependents_of new ≡ map.insert (dependents_of old) sub reading.cells
inserted old new sub reading is = map.same_map nat_cmp_total map.nat_cmp-IsAntisymmetric _ _ (λ k.
    visited_at new k ∙ ap (option_map cells_of) (is k) ∙ sym (mapped (is_at (nat_cmp sub) k) reading (tree.get nat_cmp old k))
    ∙ turned sub k (Some reading.cells) (option_map cells_of (tree.get nat_cmp old k))
    ∙ ap (cond (eq_by_cmp nat_cmp k sub) (Some reading.cells)) (sym (visited_at old k))
    ∙ sym (map.get-insert nat_cmp_total (dependents_of old) sub reading.cells k))

-- readings that differ in one that is gone
pub removed : (old new : Readings) (sub : ℕ)
    → ((k : ℕ) → tree.get nat_cmp new k ≡ cond (is_at (nat_cmp sub) k) None (tree.get nat_cmp old k))
    → dependents_of new ≡ map.remove (dependents_of old) sub
removed old new sub is = map.same_map nat_cmp_total map.nat_cmp-IsAntisymmetric _ _ (λ k.
    visited_at new k ∙ ap (option_map cells_of) (is k) ∙ mapped_none (is_at (nat_cmp sub) k) (tree.get nat_cmp old k)
    ∙ turned sub k None (option_map cells_of (tree.get nat_cmp old k))
    ∙ ap (cond (eq_by_cmp nat_cmp k sub) None) (sym (visited_at old k))
    ∙ sym (map.get-remove nat_cmp_total (dependents_of old) sub k))

-- a place among some cells' is of their query and turn
placed_parts : (sub : ℕ) (turn : Bool) (cells : VisitedCells) (p : Place) → is_placed sub turn cells p ≡ true → (sub ≡ p.sub) × (turn ≡ p.turn)
placed_parts sub turn [] p is = absurd (false≢true is)
placed_parts sub turn (cell ∷ cells) p is =
    ⊎_elim
    (λ here. let parts = same_parts (place_of sub turn cell) p here in (parts.sub, parts.turn))
    (λ there. placed_parts sub turn cells p there)
    (or_cases _ (is_placed sub turn cells p) is)

-- no other query's place is among them
other_query : (sub : ℕ) (p : Place) → is_eq (nat_cmp sub p.sub) ≡ false → (turn : Bool) (cells : VisitedCells) → is_placed sub turn cells p ≡ false
other_query sub p differs turn cells = false_from_ne_true _ (λ placed.
    both_ways _ differs (subst (λ s. is_eq (nat_cmp sub s) ≡ true) (placed_parts sub turn cells p placed).0 (number_itself sub)))

turn_changes : (b : Bool) → b ≡ not b → ⊥
turn_changes true e = true≢false e
turn_changes false e = false≢true e

-- the places of a next reading aren't those of the last
pub apart : (sub : ℕ) (turn : Bool) (cells : VisitedCells) (o : Option Reading) (p : Place)
    → turn ≡ next_turn o → is_placed sub turn cells p ≡ true → is_current o p ≡ false
apart sub turn cells None p is placed = refl
apart sub turn cells (Some last) p is placed = false_from_ne_true _ (λ current.
    turn_changes last.turn ((placed_parts p.sub last.turn last.cells p current).1 ∙ sym (placed_parts sub turn cells p placed).1 ∙ is))

left_alone : (l r : Bool) → (r ≡ true → l ≡ false) → ((l || r) && not l) ≡ r
left_alone true true other = sym (other refl)
left_alone true false other = refl
left_alone false true other = refl
left_alone false false other = refl

taken_back : (c r : Bool) → (r ≡ true → c ≡ false) → ((c || r) && not r) ≡ c
taken_back true true other = sym (other refl)
taken_back true false other = refl
taken_back false true other = refl
taken_back false false other = refl

none_left : (l : Bool) → (l && not l) ≡ false
none_left true = refl
none_left false = refl

or_none : (c : Bool) → (c || false) ≡ c
or_none true = refl
or_none false = refl

and_all : (c : Bool) → (c && true) ≡ c
and_all true = refl
and_all false = refl

-- the places of the query's last reading
current_is : (sub : ℕ) (last : Reading) (o : Option Reading) (p : Place) → sub ≡ p.sub → o ≡ Some last → is_current o p ≡ is_placed sub last.turn last.cells p
current_is sub last o p same was = ap (λ x. is_current x p) was ∙ ap (λ s. is_placed s last.turn last.cells p) (sym same)

-- a new reading in place of a last one
pub replaced : (sub : ℕ) (last reading : Reading) (o : Option Reading) (p : Place)
    → (sub ≡ p.sub → o ≡ Some last) → (sub ≡ p.sub → reading.turn ≡ next_turn o)
    → ((is_current o p || is_placed sub reading.turn reading.cells p) && not (is_placed sub last.turn last.cells p)) ≡ is_current (cond (is_at (nat_cmp sub) p.sub) (Some reading) o) p
replaced sub last reading o p was turn =
    let old = is_placed sub last.turn last.cells p in
    let new = is_placed sub reading.turn reading.cells p in
    ⊎_elim
    (λ yes.
    let same = same_number sub p.sub yes in
    let current = current_is sub last o p same (was same) in
    ap (λ c. (c || new) && not old) current
    ∙ left_alone old new (λ placed. sym current ∙ apart sub reading.turn reading.cells o p (turn same) placed)
    ∙ ap (λ s. is_placed s reading.turn reading.cells p) same
    ∙ ap (λ x. is_current x p) (sym (cond-true (is_at (nat_cmp sub) p.sub) (Some reading) o yes)))
    (λ no.
    ap (λ b. (is_current o p || b) && not old) (other_query sub p no reading.turn reading.cells)
    ∙ ap (λ b. (is_current o p || false) && not b) (other_query sub p no last.turn last.cells)
    ∙ and_all (is_current o p || false) ∙ or_none (is_current o p)
    ∙ ap (λ x. is_current x p) (sym (cond-false (is_at (nat_cmp sub) p.sub) (Some reading) o no)))
    (cases_Bool (is_eq (nat_cmp sub p.sub)))

-- a first reading
pub added : (sub : ℕ) (reading : Reading) (o : Option Reading) (p : Place) → (sub ≡ p.sub → o ≡ None)
    → (is_current o p || is_placed sub reading.turn reading.cells p) ≡ is_current (cond (is_at (nat_cmp sub) p.sub) (Some reading) o) p
added sub reading o p was =
    ⊎_elim
    (λ yes.
    let same = same_number sub p.sub yes in
    ap (λ x. is_current x p || is_placed sub reading.turn reading.cells p) (was same)
    ∙ ap (λ s. is_placed s reading.turn reading.cells p) same
    ∙ ap (λ x. is_current x p) (sym (cond-true (is_at (nat_cmp sub) p.sub) (Some reading) o yes)))
    (λ no.
    ap (λ b. is_current o p || b) (other_query sub p no reading.turn reading.cells)
    ∙ or_none (is_current o p)
    ∙ ap (λ x. is_current x p) (sym (cond-false (is_at (nat_cmp sub) p.sub) (Some reading) o no)))
    (cases_Bool (is_eq (nat_cmp sub p.sub)))

-- a new reading whose places are taken back
pub undone : (sub : ℕ) (turn : Bool) (cells : VisitedCells) (o : Option Reading) (p : Place) → (sub ≡ p.sub → turn ≡ next_turn o)
    → ((is_current o p || is_placed sub turn cells p) && not (is_placed sub turn cells p)) ≡ is_current o p
undone sub turn cells o p is = taken_back (is_current o p) (is_placed sub turn cells p) (λ placed. apart sub turn cells o p (is (placed_parts sub turn cells p placed).0) placed)

-- the same where only some of them had been added
pub undone_some : (sub : ℕ) (turn : Bool) (cells : VisitedCells) (o : Option Reading) (p : Place) (some : Bool) → (sub ≡ p.sub → turn ≡ next_turn o)
    → (is_placed sub turn cells p ≡ false → some ≡ is_current o p)
    → (some && not (is_placed sub turn cells p)) ≡ is_current o p
undone_some sub turn cells o p some is others =
    ⊎_elim
    (λ placed. ap (λ b. some && not b) placed ∙ none some ∙ sym (apart sub turn cells o p (is (placed_parts sub turn cells p placed).0) placed))
    (λ no. ap (λ b. some && not b) no ∙ and_all some ∙ others no)
    (cases_Bool (is_placed sub turn cells p))
  where
    none : (b : Bool) → (b && false) ≡ false
    none true = refl
    none false = refl

-- a query that is taken out
pub gone : (sub : ℕ) (last : Reading) (o : Option Reading) (p : Place) → (sub ≡ p.sub → o ≡ Some last)
    → (is_current o p && not (is_placed sub last.turn last.cells p)) ≡ is_current (cond (is_at (nat_cmp sub) p.sub) None o) p
gone sub last o p was =
    ⊎_elim
    (λ yes.
    let same = same_number sub p.sub yes in
    ap (λ c. c && not (is_placed sub last.turn last.cells p)) (current_is sub last o p same (was same))
    ∙ none_left (is_placed sub last.turn last.cells p)
    ∙ ap (λ x. is_current x p) (sym (cond-true (is_at (nat_cmp sub) p.sub) None o yes)))
    (λ no.
    ap (λ b. is_current o p && not b) (other_query sub p no last.turn last.cells)
    ∙ and_all (is_current o p)
    ∙ ap (λ x. is_current x p) (sym (cond-false (is_at (nat_cmp sub) p.sub) None o no)))
    (cases_Bool (is_eq (nat_cmp sub p.sub)))
