use Rattle.std.proofs.Common.{◌≡◌, ℕ, List, vec_len}
use Rattle.cache_model.specs.Maps.{or_else, effect}
use Rattle.layer_store.specs.Layers.{found_by}
use Rattle.layer_store.proofs.changes.changes_of.Given as goal

abbrev pub invariant-turn : goal.invariant-turn
invariant-turn l = (e f : List ℕ) → or_else (found_by l.changes e f) (effect l.left.items e f) ≡ effect l.fn.writes e f

abbrev pub decreases-turn : goal.decreases-turn
decreases-turn l = vec_len l.left
