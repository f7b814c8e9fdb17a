use Rattle.std.proofs.Common.{◌∙◌, ap, sym, cond, Bool, Some}
use Rattle.std.specs.BTreeMap.{get}
use Rattle.std.specs.Cmp.Lexicographic.{texts_ties}
use Rattle.text_types.specs.Texts.{text_cmp}
use Rattle.layer_store.proofs.changes.Changes.put.Goals as goal

pub returns : goal.returns
returns c e = c.in_ok-insert.ensures.updates.0 e ∙ ap (λ (b : Bool). cond b (Some c.args.fields) (get text_cmp c.args.self.now.entities e)) (sym (texts_ties c.args.entity e))
