use Rattle.std.proofs.Common.{List, [], map, length, ap, sym, subst, ◌∙◌}
use Rattle.check_model.specs.Followed.{followed_within}
use Rattle.check_model.specs.Fields.{PlacedFields, fragment_fields, fields_of_set}
use Rattle.check_model.specs.MergeRules.{some_conflict}
use Rattle.merge_rules.specs.declared.rows.Row.{Row}
use Rattle.merge_rules.specs.Rows.{IsOrdered, Stands, Grown, under}
use Rattle.merge_rules.proofs.ConflictLaws.{nothing_yet, shown}
use Rattle.merge_rules.proofs.merging.operation_conflicts.Goals as goal

pub some_conflict-requires : goal.some_conflict-requires
some_conflict-requires c =
    let start : Stands c.args.scope.now.schema.now c.new-rows.result.items [] =
    subst (λ (rs : List Row). Stands c.args.scope.now.schema.now rs []) (sym c.new-rows.ensures.items) (nothing_yet c.args.scope.now.schema.now) in
    subst (λ (rs : List Row). IsOrdered rs) (sym c.as_slice.ensures.value) (c.in_ok-expand_set.ensures.grows [] start).stands.earlier

pub returns : goal.returns
returns c =
    let start : Stands c.args.scope.now.schema.now c.new-rows.result.items [] =
    subst (λ (rs : List Row). Stands c.args.scope.now.schema.now rs []) (sym c.new-rows.ensures.items) (nothing_yet c.args.scope.now.schema.now) in
    let added : PlacedFields = fields_of_set c.args.scope.now.schema.now
    (followed_within c.len-fuel.result [] (fragment_fields c.args.scope.now.schema.now) c.args.scope.now.document.now)
    c.args.operation.now.selection_set c.root_parent-parent.result in
    let grown : Grown c.args.scope.now.schema.now c.expand_set.new.rows.items [] (map (under [] []) added) = c.in_ok-expand_set.ensures.grows [] start in
    shown c.args.scope.now.schema.now c.expand_set.new.rows.items added grown c.in_ok-conflict.conflict
    (c.in_ok-conflict.ensures grown.more (subst (λ (rs : List Row). Stands c.args.scope.now.schema.now rs grown.more) (sym c.as_slice.ensures.value) grown.stands))
    ∙ ap (λ n. some_conflict c.args.scope.now.schema.now (fields_of_set c.args.scope.now.schema.now
    (followed_within n [] (fragment_fields c.args.scope.now.schema.now) c.args.scope.now.document.now)
    c.args.operation.now.selection_set c.root_parent-parent.result)) c.len-fuel.ensures
    ∙ ap (λ p. some_conflict c.args.scope.now.schema.now (fields_of_set c.args.scope.now.schema.now
    (followed_within (length c.args.scope.now.document.now.definitions) [] (fragment_fields c.args.scope.now.schema.now) c.args.scope.now.document.now)
    c.args.operation.now.selection_set p)) c.root_parent-parent.ensures
