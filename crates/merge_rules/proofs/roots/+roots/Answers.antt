use Rattle.std.proofs.Common.{arith, List, [], map, ap, sym, ◌∙◌, ◌+◌, ◌*◌, ◌-◌, ◌<◌, ◌≤◌}
use Rattle.std.specs.List.{fold, flat_map}
use Rattle.std.specs.Option.{option_copied}
use Rattle.gql_model.specs.declared.selection.Selection.{Selection}
use Rattle.gql_model.specs.declared.selection.Selection.TheFolds.{fold_out-SelectionSet}
use Rattle.gql_model.specs.declared.selection.SelectionSet.{size-SelectionSet}
use Rattle.check_model.specs.Followed.{followed_within}
use Rattle.check_model.specs.RootFields.{RootFields, fragment_root, selection_root, field_root, inline_root, set_root}
use Rattle.merge_rules.specs.Roots.{keys_of, noted, root_fields_of_selection}
use Rattle.merge_rules.specs.Weights.{greatest}
use Rattle.merge_rules.proofs.WeightLaws.{is_light, falls}
use Rattle.site_walk.proofs.WalkLaws.{fold_next_of}
use Rattle.merge_rules.proofs.roots.+roots.Goals as goal

pub visit_set-selections-preserved : goal.visit_set-selections-preserved
visit_set-selections-preserved t c =
    fold_next_of noted (λ (fs : RootFields). fs)
    (root_fields_of_selection c.args.scope.now.schema.now c.args.object
    (followed_within c.args.fuel [] (fragment_root c.args.scope.now.schema.now c.args.object) c.args.scope.now.document.now))
    c.as_slice-selection-items.result.now c.selections.selection-index c.selection-item.result _ _ _
    (omega arith) c.selection-item.is c.selections.invariant c.visit_selection-keys.ensures

pub visit_set-selections-init : goal.visit_set-selections-init
visit_set-selections-init t c =
    ap (fold noted (keys_of c.args.keys)) (fold_out-SelectionSet _ _ _ _
    (selection_root (followed_within c.args.fuel [] (fragment_root c.args.scope.now.schema.now c.args.object) c.args.scope.now.document.now))
    field_root (inline_root c.args.scope.now.schema.now c.args.object) set_root c.args.set.now)
    ∙ ap (λ (xs : List Selection). fold noted (keys_of c.args.keys) (flat_map (λ (fs : RootFields). fs)
    (map (root_fields_of_selection c.args.scope.now.schema.now c.args.object
    (followed_within c.args.fuel [] (fragment_root c.args.scope.now.schema.now c.args.object) c.args.scope.now.document.now)) xs)))
    (sym c.as_slice-selection-items.ensures)

pub visit_fragment-visit_set-requires : goal.visit_fragment-visit_set-requires
visit_fragment-visit_set-requires t c =
    let light : size-SelectionSet c.in-Some.fragment.now.selection_set ≤ greatest c.args.scope.now.document.now.definitions =
    is_light c.args.name.now c.args.scope.now.document.now.definitions c.in-Some.fragment.now (sym c.fragment.ensures ∙ ap option_copied c.in-Some.is) in
    let lower : (c.args.fuel - 1) * (greatest c.args.scope.now.document.now.definitions + 2) + (size-SelectionSet c.in-Some.fragment.now.selection_set + 1)
    < c.args.fuel * (greatest c.args.scope.now.document.now.definitions + 2) =
    falls c.args.fuel (size-SelectionSet c.in-Some.fragment.now.selection_set) (greatest c.args.scope.now.document.now.definitions) (omega arith) light in
    omega (arith, lower)
