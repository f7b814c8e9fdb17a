use Rattle.std.proofs.Common.{sym, rules, Some}
use Rattle.std.specs.BTreeMap.{is_at}
use Rattle.text_types.specs.Texts.{text_cmp}
use Rattle.layer_store.proofs.PlaceLaws.{entity_same, entity_kept, at_key}
use Rattle.layer_store.proofs.base.Base.make_places.Goals as goal

pub returns-clause-same : goal.returns-clause-same
returns-clause-same c e f =
    let key = c.args.entity.now in
    let new = c.make_places.new.places in
    let written = (c.get_mut.follows.holds new).3 (search rules) in
    entity_same (is_at (text_cmp key) e) f new c.in-Some.places.now _ _ (written.0 e)
    (at_key c.args.self.now.entities key e (Some c.in-Some.places.now) (sym c.in-Some.ensures.value)) (c.make_places.ensures.same f)

pub returns-clause-kept : goal.returns-clause-kept
returns-clause-kept c e f =
    let key = c.args.entity.now in
    let new = c.make_places.new.places in
    let written = (c.get_mut.follows.holds new).3 (search rules) in
    entity_kept (is_at (text_cmp key) e) f new c.in-Some.places.now _ _ (written.0 e)
    (at_key c.args.self.now.entities key e (Some c.in-Some.places.now) (sym c.in-Some.ensures.value)) (c.make_places.ensures.kept f)
