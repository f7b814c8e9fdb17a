-- The index behind the map of visited cells: a place for each visited cell of each query, in the order of their keys.
use Rattle.std.specs.Prelude.{◌≡◌, ℕ, Bool, false, ◌&&◌, not, List, map, Option, None, Some}
use Rattle.std.specs.List.{list_any}
use Rattle.std.specs.Ordering.{nat_cmp, bool_cmp, ordering_then, is_eq}
use Rattle.std.specs.declared.cmp.Ordering.{Ordering}
use Rattle.std.specs.BTreeMap as tree
use Rattle.std.specs.BTreeSet as sorted
use Rattle.std.specs.FinMap as finite
use Rattle.text_types.specs.Texts.{text_cmp}
use Rattle.cache_model.specs.declared.write.Write.{Write}
use Rattle.cache_model.specs.Maps.{covers}
use Rattle.dependents.specs.declared.place.Place.{Place}
use Rattle.dependents.specs.declared.reading.Reading.{Reading}
use Rattle.dependents.specs.Waking.{VisitedCells, Dependents}

-- the order of places: by entity key, field key, query and turn
abbrev pub place_cmp : Place → Place → Ordering
place_cmp p q = ordering_then (text_cmp p.entity q.entity) (ordering_then (text_cmp p.field q.field) (ordering_then (nat_cmp p.sub q.sub) (bool_cmp p.turn q.turn)))

-- the place of a cell that a query looked at in this turn
abbrev pub place_of : ℕ → Bool → List ℕ × List ℕ → Place
place_of sub turn cell = record { entity = cell.0; field = cell.1; sub = sub; turn = turn }

-- the place is that of one of these cells, of this query and turn
abbrev pub is_placed : ℕ → Bool → VisitedCells → Place → Bool
is_placed sub turn cells place = list_any (λ cell. is_eq (place_cmp (place_of sub turn cell) place)) cells

-- the place is that of a cell of the query's last reading
abbrev pub is_current : Option Reading → Place → Bool
is_current None place = false
is_current (Some reading) place = is_placed place.sub reading.turn reading.cells place

-- the turn of a query's next reading: the other one
abbrev pub next_turn : Option Reading → Bool
next_turn None = false
next_turn (Some reading) = not reading.turn

-- the places are exactly those of the last readings' cells
abbrev pub IsIndexed : sorted.BTreeSet Place → tree.BTreeMap ℕ Reading → Type 0
IsIndexed places readings = (place : Place) → sorted.contains place_cmp places place ≡ is_current (tree.get nat_cmp readings place.sub) place

-- each query with the cells of its last reading
abbrev pub visited_by : List (ℕ × Reading) → List (ℕ × VisitedCells)
visited_by entries = map (λ entry. (entry.0, entry.1.cells)) entries

-- the map that the readings are
abbrev pub dependents_of : tree.BTreeMap ℕ Reading → Dependents
dependents_of readings = finite.from_entries (visited_by readings.entries)

-- the write covers the cell at the place, which this query looked at
abbrev pub wakes_place : Write → ℕ → Place → Bool
wakes_place write sub place = is_eq (nat_cmp place.sub sub) && covers write place.entity place.field
