-- Which live queries writes wake.
use Rattle.std.specs.Prelude.{ℕ, Bool, false, List, Option, None, Some}
use Rattle.std.specs.List.{list_any}
use Rattle.std.specs.Ordering.{nat_cmp}
use Rattle.std.specs.FinMap as map
use Rattle.cache_model.specs.declared.write.Write.{Write}
use Rattle.cache_model.specs.Maps.{covers}

-- the cells that a reading looked at: pairs of entity key and field key
abbrev pub VisitedCells : Type 0
VisitedCells = List (List ℕ × List ℕ)

-- what each live query has visited, by the query's number
abbrev pub Dependents : Type 0
Dependents = map.FinMap nat_cmp VisitedCells

-- some write covers the cell
abbrev pub is_covered : List Write → List ℕ × List ℕ → Bool
is_covered writes cell = list_any (λ write. covers write cell.0 cell.1) writes

-- a query wakes where some write covers a cell that it has visited; no other query wakes
abbrev pub wakes : List Write → Option VisitedCells → Bool
wakes writes None = false
wakes writes (Some cells) = list_any (is_covered writes) cells
