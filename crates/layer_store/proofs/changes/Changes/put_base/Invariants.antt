use Rattle.std.proofs.Common.{◌≡◌, ℕ, List}
use Rattle.std.specs.BTreeMap.{is_at}
use Rattle.std.specs.Map.{lookup, keys_of}
use Rattle.std.specs.List.Sorted.{IsStrictlySortedBy}
use Rattle.text_types.specs.Texts.{text_cmp}
use Rattle.cache_model.specs.Maps.{or_else}
use Rattle.layer_store.specs.Layers.{found_by}
use Rattle.layer_store.specs.Bases.{place_in, place_at}
use Rattle.layer_store.proofs.changes.Changes.put_base.Given as goal

abbrev pub invariant-turn : goal.invariant-turn
invariant-turn l = record {
  sorted : IsStrictlySortedBy text_cmp (keys_of l.entity-iterator);
  said : (e f : List ℕ) → or_else (found_by l.self e f) (place_in (lookup (is_at (text_cmp e)) l.entity-iterator) f) ≡ or_else (found_by l.fn.self e f) (place_at l.base e f);
}
