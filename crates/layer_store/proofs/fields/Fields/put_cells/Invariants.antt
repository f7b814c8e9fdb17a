use Rattle.std.proofs.Common.{◌≡◌, ℕ, List}
use Rattle.std.specs.BTreeMap.{get, is_at}
use Rattle.std.specs.Map.{lookup}
use Rattle.text_types.specs.Texts.{text_cmp}
use Rattle.cache_model.specs.Maps.{or_else}
use Rattle.layer_store.specs.Layers.{found_in}
use Rattle.layer_store.proofs.fields.Fields.put_cells.Given as goal

abbrev pub invariant-turn : goal.invariant-turn
invariant-turn l = (f : List ℕ) → or_else (found_in l.self f) (lookup (is_at (text_cmp f)) l.field-iterator) ≡ or_else (found_in l.fn.self f) (get text_cmp l.cells f)
