use Rattle.std.proofs.Common.{sym, rules, Some}
use Rattle.std.specs.BTreeMap.{is_at}
use Rattle.text_types.specs.Texts.{text_cmp}
use Rattle.layer_store.proofs.PlaceLaws.{entity_same, at_key}
use Rattle.layer_store.proofs.base.Base.clear_places.Goals as goal

pub returns-in-Some : goal.returns-in-Some
returns-in-Some c e f =
    let key = c.args.entity.now in
    let new = c.clear_places.new.places in
    let written = (c.get_mut.follows.holds new).3 (search rules) in
    entity_same (is_at (text_cmp key) e) f new c.in-Some.places.now _ _ (written.0 e)
    (at_key c.args.self.now.entities key e (Some c.in-Some.places.now) (sym c.in-Some.ensures.value)) (c.clear_places.ensures f)
