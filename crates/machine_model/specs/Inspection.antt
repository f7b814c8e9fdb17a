-- What a client may look at: which tickets are squashed and which are kept, and all cells.
use Rattle.std.specs.Prelude.{ℕ, suc, ◌-◌, List, [], ◌∷◌, map, flat_map, filter_map, fold, length, if◌then◌else◌, Option}
use Rattle.std.specs.Option.{option_map}
use Rattle.std.specs.List.{range_with_len}
use Rattle.std.specs.BTreeMap.{insert_entry}
use Rattle.std.specs.Ordering.{ordering_then}
use Rattle.std.specs.declared.cmp.Ordering.{Ordering}
use Rattle.text_types.specs.Texts.{text_cmp}
use Rattle.cache_model.specs.declared.write.Write.{Write}
use Rattle.cache_model.specs.declared.write.Write.TheVariants.{Set, Drop, DropName, DropAll}
use Rattle.cache_model.specs.History.{History, flattened}
use Rattle.cache_model.specs.Listing.{Row}
use Rattle.machine_model.specs.declared.output.Out.TheVariants as out
use Rattle.machine_model.specs.Operations.{Places}
use Rattle.machine_model.specs.State.{GatewayState}
use Rattle.machine_model.specs.Steps.{Step, given}

-- the number of tickets before the first unfinished one; a store may keep one map in place of these
abbrev pub squashed : History → ℕ
squashed [] = 0
squashed (content ∷ history) = if content.finished then suc (squashed history) else 0

-- the other tickets, in order
abbrev pub kept : History → List ℕ
kept history = range_with_len (suc (squashed history)) (length history - squashed history)

-- the client is told how many tickets are squashed and which are kept; nothing changes
abbrev pub layers : {O : Type 0} → ℕ → GatewayState O → Step O
layers peer state = given (out.Layers peer (squashed state.history) (kept state.history)) state

-- the place that a write sets
abbrev pub set_by : Write → Places
set_by (Set entity field cell) = (entity, field) ∷ []
set_by (Drop entity field) = []
set_by (DropName entity name) = []
set_by (DropAll entity) = []

-- all places that were ever set
abbrev pub set_in : History → Places
set_in history = flat_map (λ content. flat_map set_by content.writes) history

-- by the bytes of the object's key, then by those of the field's key
abbrev pub place_order : List ℕ × List ℕ → List ℕ × List ℕ → Ordering
place_order place other = ordering_then (text_cmp place.0 other.0) (text_cmp place.1 other.1)

-- the places so far with one more, which stands once and in order
abbrev pub placed : List ((List ℕ × List ℕ) × Unit {0}) → List ℕ × List ℕ → List ((List ℕ × List ℕ) × Unit {0})
placed entries place = insert_entry place_order entries place tt

-- places in order, each once
abbrev pub in_order : Places → Places
in_order places = map (λ entry. entry.0) (fold placed [] places)

-- the cell at a place of the flattened map, where there is one
abbrev pub row_at : History → List ℕ × List ℕ → Option Row
row_at history place = option_map (λ cell. (place.0, place.1, cell)) (flattened history place.0 place.1)

-- all cells of the flattened map, in order of their places
abbrev pub cells_of : History → List Row
cells_of history = filter_map (row_at history) (in_order (set_in history))

-- the client is told all cells of the flattened map; nothing changes
abbrev pub flat : {O : Type 0} → ℕ → GatewayState O → Step O
flat peer state = given (out.Flat peer (cells_of state.history)) state
