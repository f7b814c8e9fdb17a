use Rattle.std.proofs.Common.{ap, sym, ◌∙◌, cond}
use Rattle.std.specs.Prelude.{Some, is_some}
use Rattle.std.specs.Ordering.{is_eq}
use Rattle.text_types.specs.Texts.{text_cmp}
use Rattle.fragment_rules.specs.Indexes.{place_in}
use Rattle.fragment_rules.proofs.IndexLaws.{known_push, new_push}
use Rattle.fragment_rules.proofs.fragments.FragmentIndex.note_fragment.Goals as goal

pub returns-then-contains_key : goal.returns-then-contains_key
returns-then-contains_key c = λ ds h is q.
    h q ∙ known_push ds c.args.fragment.now q (ap is_some (sym (h c.args.fragment.now.name.text)) ∙ sym c.contains_key.ensures ∙ c.if-contains_key.true)

pub returns : goal.returns
returns c = λ ds h is q.
    c.in_ok-insert.ensures.updates.0 q
    ∙ ap (λ n. cond (is_eq (text_cmp n q)) (Some c.args.place) (place_in c.args.self q)) c.in_ok-copy.ensures
    ∙ ap (λ n. cond (is_eq (text_cmp c.args.fragment.now.name.text q)) (Some n) (place_in c.args.self q)) is
    ∙ ap (cond (is_eq (text_cmp c.args.fragment.now.name.text q)) (Some _)) (h q)
    ∙ new_push ds c.args.fragment.now q (ap is_some (sym (h c.args.fragment.now.name.text)) ∙ sym c.contains_key.ensures ∙ c.if-contains_key.false)
