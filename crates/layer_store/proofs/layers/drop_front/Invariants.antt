use Rattle.std.proofs.Common.{◌≡◌, drop}
use Rattle.layer_store.proofs.layers.drop_front.Given as goal

abbrev pub invariant-turn : goal.invariant-turn
invariant-turn l = l.layers.items ≡ drop l.counter l.fn.layers.items
