use Rattle.std.proofs.Common.{ap, sym, subst, ◌∙◌, length, cond}
use Rattle.std.specs.Prelude.{Some}
use Rattle.std.specs.Ordering.{is_eq}
use Rattle.std.specs.BTreeMap.{get}
use Rattle.text_types.specs.Texts.{text_cmp}
use Rattle.execution_model.specs.Collection.{group_place}
use Rattle.gql_collection.specs.Keys.{HasDistinctKeys}
use Rattle.gql_collection.proofs.GroupLaws.{place_begun, keys_begun}
use Rattle.gql_collection.proofs.groups.Groups.begun.Goals as goal

pub invariant_of-result : goal.invariant_of-result
invariant_of-result c = record {
  placed = λ name.
      let key = c.args.key.now in
      let groups = c.args.self.groups in
      let before = get text_cmp c.args.self.places name in
      c.in_ok-insert.ensures.updates.0 name
      ∙ ap (λ k. cond (is_eq (text_cmp k name)) (Some c.len.result) before) c.in_ok-copy.ensures
      ∙ ap (λ n. cond (is_eq (text_cmp key name)) (Some n) before) c.len.ensures
      ∙ ap (cond (is_eq (text_cmp key name)) (Some (length groups))) (c.args.self.placed name)
      ∙ place_begun key name groups c.in_ok-group.field-0 (ap (λ g. g.key) c.in_ok-group.ensures) c.requires
      ∙ sym (ap (group_place name) c.in_ok-push.ensures.ok);
  distinct =
      subst HasDistinctKeys (sym c.in_ok-push.ensures.ok)
      (keys_begun c.args.key.now c.args.self.groups c.in_ok-group.field-0 (ap (λ g. g.key) c.in_ok-group.ensures) c.requires c.args.self.distinct);
}
