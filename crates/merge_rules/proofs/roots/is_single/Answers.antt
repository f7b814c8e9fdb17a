use Rattle.std.proofs.Common.{ap, ◌∙◌, []}
use Rattle.std.specs.List.{fold}
use Rattle.check_model.specs.Followed.{followed_within}
use Rattle.check_model.specs.RootFields.{fragment_root, root_fields, root_fields_of_set}
use Rattle.merge_rules.specs.Roots.{Keys, noted, start, is_one}
use Rattle.merge_rules.proofs.RootLaws.{one_is_single}
use Rattle.merge_rules.proofs.roots.is_single.Goals as goal

pub returns : goal.returns
returns c =
    c.is_single.ensures
    ∙ ap is_one c.visit_set-keys.ensures
    ∙ ap (λ (k : Keys). is_one (fold noted k (root_fields_of_set c.args.scope.now.schema.now c.args.object
    (followed_within c.len-fuel.result [] (fragment_root c.args.scope.now.schema.now c.args.object) c.args.scope.now.document.now) c.args.operation.now.selection_set))) c.new.ensures
    ∙ ap (λ n. is_one (fold noted start (root_fields_of_set c.args.scope.now.schema.now c.args.object
    (followed_within n [] (fragment_root c.args.scope.now.schema.now c.args.object) c.args.scope.now.document.now) c.args.operation.now.selection_set))) c.len-fuel.ensures
    ∙ one_is_single (root_fields c.args.scope.now.schema.now c.args.scope.now.document.now c.args.object c.args.operation.now)
