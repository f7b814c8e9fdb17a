use Rattle.std.proofs.Common.{◌≡◌, ◌∙◌, sym, false}
use Rattle.std.specs.Prelude.{is_some}
use Rattle.std.specs.BTreeMap.{get, is_at}
use Rattle.text_types.specs.Texts.{text_cmp}
use Rattle.layer_store.proofs.PlaceLaws.{new_same, new_kept, at_key, absent, empty_get}
use Rattle.layer_store.proofs.base.Base.make_entity.Goals as goal

pub returns-clause-same : goal.returns-clause-same
returns-clause-same c e f =
    let none : is_some (get text_cmp c.args.self.now.entities c.in_ok-copy.field-0) ≡ false = rw c.in_ok-copy.ensures (sym c.contains_key.ensures ∙ c.if-contains_key.false) in
    new_same (is_at (text_cmp c.in_ok-copy.field-0) e) f c.new.result _ _ (c.in_ok-insert.ensures.updates.0 e)
    (at_key c.args.self.now.entities c.in_ok-copy.field-0 e _ (absent _ none)) (empty_get c.new.result f c.new.ensures.empty)

pub returns-clause-kept : goal.returns-clause-kept
returns-clause-kept c e f =
    let none : is_some (get text_cmp c.args.self.now.entities c.in_ok-copy.field-0) ≡ false = rw c.in_ok-copy.ensures (sym c.contains_key.ensures ∙ c.if-contains_key.false) in
    new_kept (is_at (text_cmp c.in_ok-copy.field-0) e) f c.new.result _ _ (c.in_ok-insert.ensures.updates.0 e)
    (at_key c.args.self.now.entities c.in_ok-copy.field-0 e _ (absent _ none))
