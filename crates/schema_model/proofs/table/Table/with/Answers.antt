use Rattle.std.proofs.Common.{◌≡◌, ap, sym, ◌∙◌, length, cond}
use Rattle.std.specs.Prelude.{Some, None}
use Rattle.std.specs.Ordering.{is_eq}
use Rattle.std.specs.BTreeMap.{get}
use Rattle.text_types.specs.Texts.{text_cmp}
use Rattle.schema_model.specs.Tables.{place_of}
use Rattle.schema_model.proofs.TableLaws.{Lacks-unplaced, places_with}
use Rattle.schema_model.proofs.table.Table.with.Goals as goal

pub push-requires : goal.push-requires
push-requires g c = Lacks-unplaced _ _ (ap (λ ps. place_of ps c.args.name) c.self.view_is ∙ c.requires)

pub invariant_of-result : goal.invariant_of-result
invariant_of-result g c = λ q.
    let pairs = c.self.inside.pairs in
    let name = c.args.name in
    let before = get text_cmp c.self.inside.places q in
    let none : place_of pairs name ≡ None = ap (λ ps. place_of ps name) c.self.view_is ∙ c.requires in
    let step : get text_cmp c.insert.new.self q ≡ cond (is_eq (text_cmp c.in_ok-copy.field-0 q)) (Some c.len.result) before =
    c.in_ok-insert.ensures.updates.0 q in
    step
    ∙ ap (λ n. cond (is_eq (text_cmp n q)) (Some c.len.result) before) c.in_ok-copy.ensures
    ∙ ap (λ n. cond (is_eq (text_cmp name q)) (Some n) before) c.len.ensures
    ∙ ap (cond (is_eq (text_cmp name q)) (Some (length pairs))) (c.self.invariant q)
    ∙ places_with pairs name q c.args.value none
    ∙ sym (ap (λ ps. place_of ps q) c.in_ok-push.ensures.ok)
