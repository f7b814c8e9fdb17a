use Rattle.std.proofs.Common.{◌≡◌, ℕ, List}
use Rattle.std.specs.BTreeMap.{get}
use Rattle.text_types.specs.Texts.{text_cmp}
use Rattle.layer_store.specs.Bases.{cell_of}
use Rattle.layer_store.proofs.places.clear_places.Given as goal

abbrev pub invariant-turn : goal.invariant-turn
invariant-turn l = (f : List ℕ) → cell_of (get text_cmp l.places f) ≡ cell_of (get text_cmp l.fn.places f)
