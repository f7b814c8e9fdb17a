use Rattle.std.proofs.Common.{◌≡◌, ℕ, List, take}
use Rattle.std.specs.Prelude.{bytes_eq}
use Rattle.std.specs.List.{list_any}
use Rattle.cache_model.specs.Keys.{field_name_of}
use Rattle.cache_model.specs.Maps.{or_else}
use Rattle.layer_store.specs.Layers.{found_in, gone_if}
use Rattle.layer_store.proofs.fields.Fields.put_names.Given as goal

abbrev pub invariant-loop-name : goal.invariant-loop-name
invariant-loop-name l = (f : List ℕ) → found_in l.self f ≡ or_else (found_in l.fn.self f) (gone_if (list_any (λ name. bytes_eq name (field_name_of f)) (take l.name-index l.names)))
