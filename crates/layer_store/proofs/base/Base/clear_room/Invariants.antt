use Rattle.std.proofs.Common.{◌≡◌, ℕ, List}
use Rattle.layer_store.specs.Bases.{base_at}
use Rattle.layer_store.proofs.base.Base.clear_room.Given as goal

abbrev pub invariant-turn : goal.invariant-turn
invariant-turn l = (e f : List ℕ) → base_at l.self e f ≡ base_at l.fn.self e f
