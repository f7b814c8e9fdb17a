use Rattle.std.proofs.Common.{◌≡◌, ◌≤◌, take, length}
use Rattle.layer_store.specs.Layers.{found_through}
use Rattle.layer_store.proofs.layers.find_through.Given as goal

abbrev pub invariant-turn : goal.invariant-turn
invariant-turn l = record {
  within : l.at ≤ length l.layers.items;
  rest : found_through (take l.at l.layers.items) l.entity l.field ≡ found_through l.layers.items l.entity l.field;
}

abbrev pub decreases-turn : goal.decreases-turn
decreases-turn l = l.at
