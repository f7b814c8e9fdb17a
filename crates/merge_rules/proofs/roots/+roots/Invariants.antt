use Rattle.std.proofs.Common.{◌≡◌, ◌+◌, ◌*◌, [], map, drop}
use Rattle.std.specs.List.{fold, flat_map}
use Rattle.check_model.specs.Followed.{followed_within}
use Rattle.check_model.specs.RootFields.{RootFields, fragment_root, root_fields_of_set}
use Rattle.merge_rules.specs.Roots.{keys_of, noted, root_fields_of_selection}
use Rattle.merge_rules.specs.Weights.{weight}
use Rattle.merge_rules.proofs.roots.+roots.Given as goal

abbrev pub decreases-visit_set : goal.decreases-visit_set
decreases-visit_set l = l.fuel * weight l.scope.now.document.now + (goal.size-visit_set l + 1)

abbrev pub decreases-visit_selection : goal.decreases-visit_selection
decreases-visit_selection l = l.fuel * weight l.scope.now.document.now + (goal.size-visit_selection l + 1)

abbrev pub decreases-visit_inline : goal.decreases-visit_inline
decreases-visit_inline l = l.fuel * weight l.scope.now.document.now + (goal.size-visit_inline l + 1)

abbrev pub decreases-visit_fragment : goal.decreases-visit_fragment
decreases-visit_fragment l = l.fuel * weight l.scope.now.document.now

abbrev pub invariant-visit_set-selections : goal.invariant-visit_set-selections
invariant-visit_set-selections l =
    fold noted (keys_of l.initial.keys)
    (root_fields_of_set l.scope.schema.now l.object (followed_within l.fuel [] (fragment_root l.scope.schema.now l.object) l.scope.document.now) l.set)
    ≡ fold noted (keys_of l.keys)
    (flat_map (λ (fs : RootFields). fs)
    (map (root_fields_of_selection l.scope.schema.now l.object (followed_within l.fuel [] (fragment_root l.scope.schema.now l.object) l.scope.document.now))
    (drop l.selection-index l.selection-items)))
