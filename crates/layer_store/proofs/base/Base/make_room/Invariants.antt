use Rattle.std.proofs.Common.{◌≡◌, ℕ, List, true, false}
use Rattle.std.specs.BTreeMap.{is_at}
use Rattle.std.specs.Map.{lookup}
use Rattle.text_types.specs.Texts.{text_cmp}
use Rattle.layer_store.specs.Bases.{base_at, has_place, sets, sets_in}
use Rattle.layer_store.proofs.base.Base.make_room.Given as goal

abbrev pub invariant-turn : goal.invariant-turn
invariant-turn l = record {
  same : (e f : List ℕ) → base_at l.self e f ≡ base_at l.fn.self e f;
  room : (e f : List ℕ) → sets l.changes e f ≡ true → sets_in (lookup (is_at (text_cmp e)) l.entity-iterator) f ≡ false → has_place l.self e f ≡ true;
}
