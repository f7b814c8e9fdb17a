-- The queries with a covered place are those that wake.
use Rattle.std.proofs.Common.{◌≡◌, Option, ℕ, Bool, true, false, List, refl, sym, ◌∙◌, ap, subst, Some, None, nat_eq}
use Rattle.std.specs.Option.{option_map}
use Rattle.std.specs.List.{list_any}
use Rattle.std.specs.Ordering.{nat_cmp, is_eq}
use Rattle.std.specs.BTreeMap as tree
use Rattle.std.specs.BTreeMap.{is_at}
use Rattle.std.specs.Cmp.{unsigned_ties}
use Rattle.std.specs.BTreeSet as sorted
use Rattle.std.specs.FinMap as map
use Rattle.std.proofs.lemmas.Bool.{false≢true, and_parts, and_from}
use Rattle.cache_model.specs.declared.write.Write.{Write}
use Rattle.cache_model.specs.Maps.{covers}
use Rattle.dependents.specs.declared.place.Place.{Place}
use Rattle.dependents.specs.declared.reading.Reading.{Reading}
use Rattle.dependents.specs.Waking.{wakes}
use Rattle.dependents.specs.Places.{place_cmp, place_of, is_current, IsIndexed, dependents_of, wakes_place}
use Rattle.dependents.proofs.AnyLaws.{from_any, any_weaker, any_never, any_exchange, same_truth}
use Rattle.dependents.proofs.PlaceLaws.{same_parts, same_number, number_itself, place_itself}
use Rattle.dependents.proofs.ReadingLaws.{cells_of, visited_at}

-- the write covers a cell of the reading
abbrev seen : Write → Option Reading → Bool
seen write None = false
seen write (Some reading) = list_any (λ cell. covers write cell.0 cell.1) reading.cells

seen_from_place : (write : Write) (p : Place) (o : Option Reading) → is_current o p ≡ true → covers write p.entity p.field ≡ true → seen write o ≡ true
seen_from_place write p None current covered = current
seen_from_place write p (Some reading) current covered =
    any_weaker (λ cell. is_eq (place_cmp (place_of p.sub reading.turn cell) p)) (λ cell. covers write cell.0 cell.1) reading.cells
    (λ cell ties.
    let parts = same_parts (place_of p.sub reading.turn cell) p ties in
    (λ i. covers write (parts.entity i) (parts.field i)) ∙ covered)
    current

module _ (places : sorted.BTreeSet Place) (readings : tree.BTreeMap ℕ Reading) (indexed : IsIndexed places readings) (write : Write) (sub : ℕ) where
  there : list_any (wakes_place write sub) places.keys ≡ true → seen write (tree.get nat_cmp readings sub) ≡ true
  there = from_any (λ p q. is_eq (place_cmp p q)) place_itself (wakes_place write sub) places.keys (λ p among wakes.
      let parts = and_parts (is_eq (nat_cmp p.sub sub)) (covers write p.entity p.field) wakes in
      let current = subst (λ s. is_current (tree.get nat_cmp readings s) p ≡ true) (same_number p.sub sub parts.0) (sym (indexed p) ∙ among) in
      seen_from_place write p (tree.get nat_cmp readings sub) current parts.1)

  back_from : (o : Option Reading) → tree.get nat_cmp readings sub ≡ o → seen write o ≡ true → list_any (wakes_place write sub) places.keys ≡ true
  back_from None is sees = absurd (false≢true sees)
  back_from (Some reading) is sees =
      from_any (λ c d. is_eq (place_cmp (place_of sub reading.turn d) (place_of sub reading.turn c))) (λ c. place_itself (place_of sub reading.turn c)) (λ cell. covers write cell.0 cell.1) reading.cells
      (λ cell among covered.
      let p = place_of sub reading.turn cell in
      let stands = indexed p ∙ ap (λ o. is_current o p) is ∙ among in
      any_weaker (λ q. is_eq (place_cmp p q)) (wakes_place write sub) places.keys
      (λ q ties.
      let parts = same_parts p q ties in
      and_from (is_eq (nat_cmp q.sub sub)) (covers write q.entity q.field)
      (subst (λ s. is_eq (nat_cmp s sub) ≡ true) parts.sub (number_itself sub))
      (sym (λ i. covers write (parts.entity i) (parts.field i)) ∙ covered))
      stands)
      sees

  wakes_at : list_any (wakes_place write sub) places.keys ≡ seen write (tree.get nat_cmp readings sub)
  wakes_at = same_truth _ _ there (back_from (tree.get nat_cmp readings sub) refl)

all_seen : (writes : List Write) (o : Option Reading) → list_any (λ write. seen write o) writes ≡ wakes writes (option_map cells_of o)
all_seen writes None = any_never writes
all_seen writes (Some reading) = any_exchange (λ write cell. covers write cell.0 cell.1) writes reading.cells

pub woken_is : (places : sorted.BTreeSet Place) (readings : tree.BTreeMap ℕ Reading) → IsIndexed places readings → (writes : List Write) (sub : ℕ)
    → list_any (λ write. list_any (wakes_place write sub) places.keys) writes ≡ wakes writes (map.get (dependents_of readings) sub)
woken_is places readings indexed writes sub =
    (λ i. list_any (λ write. wakes_at places readings indexed write sub i) writes)
    ∙ all_seen writes (tree.get nat_cmp readings sub)
    ∙ ap (wakes writes) (sym (visited_at readings sub))

-- the listed numbers are those of the set
pub listed_is : (list keys : List ℕ) (sub : ℕ) → list ≡ keys → list_any (nat_eq sub) list ≡ list_any (is_at (nat_cmp sub)) keys
listed_is list keys sub same = ap (list_any (nat_eq sub)) same ∙ (λ i. list_any (λ k. unsigned_ties sub k i) keys)
