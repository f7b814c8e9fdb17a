use Rattle.std.proofs.Common.{◌≡◌, ℕ, List, true, unwrap_or}
use Rattle.std.specs.BTreeMap.{get, btree_map_len}
use Rattle.text_types.specs.Texts.{text_cmp}
use Rattle.layer_store.specs.Layers.{found_at, found_by}
use Rattle.layer_store.specs.Bases.{base_at, has_place, sets_in}
use Rattle.layer_store.proofs.base.Base.absorb.Given as goal

abbrev pub invariant-turn : goal.invariant-turn
invariant-turn l = record {
  said : (e f : List ℕ) → unwrap_or (found_at (get text_cmp l.left e) f) (base_at l.self e f) ≡ unwrap_or (found_by l.fn.changes e f) (base_at l.fn.self e f);
  room : (e f : List ℕ) → sets_in (get text_cmp l.left e) f ≡ true → has_place l.self e f ≡ true;
}

abbrev pub decreases-turn : goal.decreases-turn
decreases-turn l = btree_map_len l.left
