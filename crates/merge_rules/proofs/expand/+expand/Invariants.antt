use Rattle.std.proofs.Common.{◌+◌, ◌*◌, ◌≤◌, [], length, map, take}
use Rattle.std.specs.List.{flat_map}
use Rattle.check_model.specs.Followed.{followed_within}
use Rattle.check_model.specs.Fields.{PlacedIn, fragment_fields}
use Rattle.merge_rules.specs.Parts.{fields_of_selection}
use Rattle.merge_rules.specs.Rows.{IsWithin, Grows}
use Rattle.merge_rules.specs.Weights.{weight}
use Rattle.merge_rules.proofs.expand.+expand.Given as goal

abbrev pub decreases-expand_set : goal.decreases-expand_set
decreases-expand_set l = l.fuel * weight l.scope.now.document.now + (goal.size-expand_set l + 1)

abbrev pub decreases-expand_selection : goal.decreases-expand_selection
decreases-expand_selection l = l.fuel * weight l.scope.now.document.now + (goal.size-expand_selection l + 1)

abbrev pub decreases-expand_field : goal.decreases-expand_field
decreases-expand_field l = l.fuel * weight l.scope.now.document.now + (goal.size-expand_field l + 1)

abbrev pub decreases-expand_inline : goal.decreases-expand_inline
decreases-expand_inline l = l.fuel * weight l.scope.now.document.now + (goal.size-expand_inline l + 1)

abbrev pub decreases-expand_fragment : goal.decreases-expand_fragment
decreases-expand_fragment l = l.fuel * weight l.scope.now.document.now

abbrev pub invariant-expand_set-selections : goal.invariant-expand_set-selections
invariant-expand_set-selections l = record {
  within : IsWithin l.at.above (length l.rows.items);
  longer : length l.initial.rows.items ≤ length l.rows.items;
  grows :
      Grows l.scope.schema.now l.initial.rows.items l.rows.items l.at.above
      (flat_map (λ (fs : PlacedIn). fs l.at.parent)
      (map (fields_of_selection l.scope.schema.now (followed_within l.fuel [] (fragment_fields l.scope.schema.now) l.scope.document.now))
      (take l.selection-index l.selection-items)));
}
