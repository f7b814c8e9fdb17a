use Rattle.std.proofs.Common.{ap, sym, ◌∙◌, cond}
use Rattle.std.specs.Prelude.{Some, is_some}
use Rattle.std.specs.Ordering.{is_eq}
use Rattle.std.specs.BTreeMap.{get}
use Rattle.text_types.specs.Texts.{text_cmp}
use Rattle.variable_rules.proofs.IndexLaws.{known_push, new_push}
use Rattle.variable_rules.proofs.declared.with_place.Goals as goal

pub returns-then-contains_key : goal.returns-then-contains_key
returns-then-contains_key c = λ ns h is q.
    h q ∙ known_push ns c.args.name.now q (ap is_some (sym (h c.args.name.now)) ∙ sym c.contains_key.ensures ∙ c.if-contains_key.true)

pub returns : goal.returns
returns c = λ ns h is q.
    c.in_ok-insert.ensures.updates.0 q
    ∙ ap (λ n. cond (is_eq (text_cmp n q)) (Some c.args.place) (get text_cmp c.args.places q)) c.in_ok-copy.ensures
    ∙ ap (λ n. cond (is_eq (text_cmp c.args.name.now q)) (Some n) (get text_cmp c.args.places q)) is
    ∙ ap (cond (is_eq (text_cmp c.args.name.now q)) (Some _)) (h q)
    ∙ new_push ns c.args.name.now q (ap is_some (sym (h c.args.name.now)) ∙ sym c.contains_key.ensures ∙ c.if-contains_key.false)
