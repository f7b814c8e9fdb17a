use Rattle.std.proofs.Common.{◌≡◌, ◌∙◌, sym, false}
use Rattle.std.specs.Prelude.{is_some}
use Rattle.std.specs.BTreeMap.{get, is_at}
use Rattle.text_types.specs.Texts.{text_cmp}
use Rattle.layer_store.proofs.PlaceLaws.{make_same, at_key, absent}
use Rattle.layer_store.proofs.places.make_place.Goals as goal

pub returns-clause-same : goal.returns-clause-same
returns-clause-same c f =
    let none : is_some (get text_cmp c.args.places.now c.in_ok-copy.field-0) ≡ false = rw c.in_ok-copy.ensures (sym c.contains_key.ensures ∙ c.if-contains_key.false) in
    rw (c.in_ok-insert.ensures.updates.0 f) (make_same (is_at (text_cmp c.in_ok-copy.field-0) f) (get text_cmp c.args.places.now f)
    (at_key c.args.places.now c.in_ok-copy.field-0 f _ (absent _ none)))
