use Rattle.std.proofs.Common.{◌≡◌, ◌≤◌, ℕ, List, take, length}
use Rattle.cache_model.specs.Maps.{or_else}
use Rattle.layer_store.specs.Layers.{found_by, found_through}
use Rattle.layer_store.proofs.layers.merged.Given as goal

abbrev pub invariant-turn : goal.invariant-turn
invariant-turn l = record {
  within : l.at ≤ length l.layers.items;
  said : (e f : List ℕ) → or_else (found_by l.changes e f) (found_through (take l.at l.layers.items) e f) ≡ found_through (take l.count l.layers.items) e f;
}

abbrev pub decreases-turn : goal.decreases-turn
decreases-turn l = l.at
