use Rattle.std.proofs.Common.{sym, Some, None}
use Rattle.std.specs.BTreeMap.{get, is_at}
use Rattle.text_types.specs.Texts.{text_cmp}
use Rattle.layer_store.proofs.PlaceLaws.{clear_same, at_key}
use Rattle.layer_store.proofs.places.clear_place.Goals as goal

pub returns-in-Some-None : goal.returns-in-Some-None
returns-in-Some-None c f =
    rw (c.remove.ensures.updates.0 f) (clear_same (is_at (text_cmp c.args.field.now) f) (get text_cmp c.args.places.now f)
    (at_key c.args.places.now c.args.field.now f (Some None) (sym (rw c.in-Some-None.field-0-is at c.in-Some-None.ensures.value))))
