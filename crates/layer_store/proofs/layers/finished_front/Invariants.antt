use Rattle.std.proofs.Common.{◌≡◌, ◌+◌, ◌-◌, ◌≤◌, drop, length}
use Rattle.layer_store.specs.Layers.{finished_count}
use Rattle.layer_store.proofs.layers.finished_front.Given as goal

abbrev pub invariant-turn : goal.invariant-turn
invariant-turn l = record {
  within : l.count ≤ length l.layers.items;
  rest : l.count + finished_count (drop l.count l.layers.items) ≡ finished_count l.layers.items;
}

abbrev pub decreases-turn : goal.decreases-turn
decreases-turn l = length l.layers.items - l.count
