use Rattle.std.proofs.Common.{◌≡◌, List, ℕ, drop}
use Rattle.std.specs.List.{list_any}
use Rattle.cache_model.specs.History.{History, is_shadowed, touched_above}
use Rattle.layer_store.specs.Stores.{Stands}
use Rattle.optimistic_layers.proofs.covered.masked.Given as goal

abbrev pub invariant-loop-entity : goal.invariant-loop-entity
invariant-loop-entity l = (h : History) → Stands l.store h → list_any (λ (cell : List ℕ × List ℕ). touched_above h l.ticket cell.0 cell.1) (drop l.entity-index l.entity-items) ≡ is_shadowed l.visited h l.ticket
