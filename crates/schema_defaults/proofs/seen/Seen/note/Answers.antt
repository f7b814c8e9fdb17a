use Rattle.std.proofs.Common.{◌≡◌, ◌∷◌, ◌++◌, [], ap, sym, ◌∙◌, cond, true, false}
use Rattle.std.specs.Prelude.{None, Some}
use Rattle.std.specs.BTreeSet.{contains}
use Rattle.std.specs.Ordering.{is_eq}
use Rattle.text_types.specs.Texts.{text_cmp}
use Rattle.schema_rules.specs.Lines.{earlier}
use Rattle.schema_rules.specs.Lines.{Mark}
use Rattle.schema_defaults.specs.Repetitions.{repeated, meets}
use Rattle.schema_defaults.proofs.EarlierLaws.{earlier_none}
use Rattle.schema_defaults.proofs.SeenLaws.{meets_known, meets_new, repeated_push}
use Rattle.schema_defaults.proofs.seen.Seen.note.Goals as goal

pub returns-then-contains : goal.returns-then-contains
returns-then-contains c = λ marks h.
    let m : Mark = (c.args.name.now, c.args.line) in
    let known : meets m.0 marks ≡ true = sym (h.names m.0) ∙ sym c.contains.ensures ∙ c.if-contains.true in
    record {
      names = λ q. h.names q ∙ meets_known q marks m known;
      found =
          c.earlier-repeated.ensures
          ∙ ap (λ o. earlier o (Some m.1)) h.found
          ∙ ap (λ b. earlier (repeated marks) (cond b (Some m.1) None)) (sym known)
          ∙ sym (repeated_push marks m);
    }

pub returns : goal.returns
returns c = λ marks h.
    let m : Mark = (c.args.name.now, c.args.line) in
    let unknown : meets m.0 marks ≡ false = sym (h.names m.0) ∙ sym c.contains.ensures ∙ c.if-contains.false in
    record {
      names = λ q.
          c.in_ok-insert.ensures.updates.0 q
          ∙ ap (λ n. cond (is_eq (text_cmp n q)) true (contains text_cmp c.args.self.names q)) c.in_ok-copy.ensures
          ∙ ap (cond (is_eq (text_cmp m.0 q)) true) (h.names q)
          ∙ meets_new q marks m;
      found =
          h.found
          ∙ sym (earlier_none (repeated marks))
          ∙ ap (λ b. earlier (repeated marks) (cond b (Some m.1) None)) (sym unknown)
          ∙ sym (repeated_push marks m);
    }
