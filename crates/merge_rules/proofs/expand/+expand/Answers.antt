use Rattle.std.proofs.Common.{arith, refl, [], ap, sym, subst, ◌∙◌, ◌+◌, ◌*◌, ◌-◌, ◌<◌, ◌≤◌}
use Rattle.std.specs.Option.{option_copied}
use Rattle.gql_model.specs.declared.selection.SelectionSet.{size-SelectionSet}
use Rattle.check_model.specs.Followed.{followed_within}
use Rattle.check_model.specs.Fields.{PlacedFields, fields_of_set, fragment_fields}
use Rattle.gql_model.specs.declared.selection.Field.{out-Field}
use Rattle.merge_rules.specs.declared.rows.Row.{Row}
use Rattle.merge_rules.specs.Parts.{fields_of_selection}
use Rattle.merge_rules.specs.Rows.{Grows}
use Rattle.merge_rules.specs.Weights.{greatest}
use Rattle.merge_rules.proofs.WeightLaws.{is_light, falls}
use Rattle.merge_rules.proofs.RowLaws.{within_more}
use Rattle.merge_rules.proofs.ExpandLaws.{grows_next, grows_set, follow_step, field_alone, field_with_set}
use Rattle.merge_rules.proofs.expand.+expand.Goals as goal

pub expand_set-selections-preserved : goal.expand_set-selections-preserved
expand_set-selections-preserved t c = record {
  within = within_more c.args.at.above _ _ c.in_ok-expand_selection.ensures.longer c.selections.invariant.within;
  longer = omega (arith, c.in_ok-expand_selection.ensures.longer, c.selections.invariant.longer);
  grows = grows_next c.args.scope.now.schema.now _ _ _ c.args.at.above
      (fields_of_selection c.args.scope.now.schema.now (followed_within c.args.fuel [] (fragment_fields c.args.scope.now.schema.now) c.args.scope.now.document.now))
      c.args.at.parent c.as_slice-selection-items.result.now c.selections.selection-index c.selection-item.result
      (omega arith) c.selection-item.is c.requires c.selections.invariant.grows c.in_ok-expand_selection.ensures.grows;
}

pub expand_set-returns-clause-grows : goal.expand_set-returns-clause-grows
expand_set-returns-clause-grows t c =
    grows_set c.args.scope.now.schema.now _ _ c.args.at.above
    (followed_within c.args.fuel [] (fragment_fields c.args.scope.now.schema.now) c.args.scope.now.document.now)
    c.args.set.now c.args.at.parent c.as_slice-selection-items.result.now c.selections.selection-index
    (omega arith) c.as_slice-selection-items.ensures c.selections.invariant.grows

pub expand_field-returns-in_default-clause-grows : goal.expand_field-returns-in_default-clause-grows
expand_field-returns-in_default-clause-grows t c =
    let row : Row = record {
      above = c.args.at.above;
      key = c.response_key.result;
      parent = c.args.at.parent;
      name = record { ref_ptr = (0, 0); now = (out-Field c.args.field.now).name.text };
      arguments = c.as_slice.result;
    } in
    field_alone c.args.scope.now.schema.now (followed_within c.args.fuel [] (fragment_fields c.args.scope.now.schema.now) c.args.scope.now.document.now)
    _ _ row c.args.field.now c.args.at.parent c.in_ok-place.place
    (record { key = c.response_key.ensures; parent_is = refl; name = refl; arguments = c.as_slice.ensures })
    c.in_default.not-Some (c.in_ok-place.ensures.field c.args.scope.now.schema.now)

pub expand_field-returns-clause-grows : goal.expand_field-returns-clause-grows
expand_field-returns-clause-grows t c =
    let row : Row = record {
      above = c.args.at.above;
      key = c.response_key.result;
      parent = c.args.at.parent;
      name = record { ref_ptr = (0, 0); now = (out-Field c.args.field.now).name.text };
      arguments = c.as_slice.result;
    } in
    field_with_set c.args.scope.now.schema.now (followed_within c.args.fuel [] (fragment_fields c.args.scope.now.schema.now) c.args.scope.now.document.now)
    _ _ _ row c.args.field.now c.in-Some.set c.args.at.parent c.field_parent.result c.in_ok-place.place
    (record { key = c.response_key.ensures; parent_is = refl; name = refl; arguments = c.as_slice.ensures })
    c.in-Some.is c.field_parent.ensures (c.in_ok-place.ensures.field c.args.scope.now.schema.now) c.in_ok-expand_set.ensures.grows

pub expand_fragment-expand_set-requires : goal.expand_fragment-expand_set-requires
expand_fragment-expand_set-requires t c =
    let light : size-SelectionSet c.in-Some.fragment.now.selection_set ≤ greatest c.args.scope.now.document.now.definitions =
    is_light c.args.name.now c.args.scope.now.document.now.definitions c.in-Some.fragment.now (sym c.fragment.ensures ∙ ap option_copied c.in-Some.is) in
    let lower : (c.args.fuel - 1) * (greatest c.args.scope.now.document.now.definitions + 2) + (size-SelectionSet c.in-Some.fragment.now.selection_set + 1)
    < c.args.fuel * (greatest c.args.scope.now.document.now.definitions + 2) =
    falls c.args.fuel (size-SelectionSet c.in-Some.fragment.now.selection_set) (greatest c.args.scope.now.document.now.definitions) (omega arith) light in
    (omega (arith, lower), c.requires)

pub expand_fragment-returns-clause-grows : goal.expand_fragment-returns-clause-grows
expand_fragment-returns-clause-grows t c =
    subst (λ (zs : PlacedFields). Grows c.args.scope.now.schema.now c.args.rows.now.items c.expand_set.new.rows.items c.args.above zs)
    (ap (λ p. fields_of_set c.args.scope.now.schema.now
    (followed_within (c.args.fuel - 1) [] (fragment_fields c.args.scope.now.schema.now) c.args.scope.now.document.now)
    c.in-Some.fragment.now.selection_set p) c.composite_named.ensures
    ∙ follow_step c.args.fuel [] (fragment_fields c.args.scope.now.schema.now) c.args.scope.now.document.now c.args.name.now c.in-Some.fragment.now
    (omega arith) (sym c.fragment.ensures ∙ ap option_copied c.in-Some.is))
    c.in_ok-expand_set.ensures.grows
