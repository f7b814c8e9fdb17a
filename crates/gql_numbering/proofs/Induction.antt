-- Induction over selection sets: what holds of a set where it holds of each set that its selections carry.
use Rattle.std.proofs.Common.{List, [], ◌∷◌, Option, Some, None, map, subst, sym, ◌∙◌}
use Rattle.gql_model.specs.declared.selection.SelectionSet.{SelectionSet}
use Rattle.gql_model.specs.declared.selection.Selection.{Selection}
use Rattle.gql_model.specs.declared.selection.Selection.TheOpen.{SelectionSet-F, Selection-F, Field-F, InlineFragment-F}
use Rattle.gql_model.specs.declared.selection.Selection.TheFolds.{ind-SelectionSet}
use Rattle.gql_model.specs.declared.selection.Selection.TheViews.{out-roll-Selection, out-roll-Field, roll-SelectionSet, out-roll-SelectionSet}
use Rattle.gql_model.specs.declared.selection.Selection.{map-Selection}
use Rattle.gql_model.specs.declared.selection.Field.{Field, map-Field}
use Rattle.gql_model.specs.declared.selection.InlineFragment.{InlineFragment}
use Rattle.gql_numbering.specs.Parts.{selections_of, set_of_field, inner_set, inner_set_in}

-- it holds of the set, where there is one
abbrev pub OfInner : (SelectionSet → Type 0) → Option SelectionSet → Type 0
OfInner P None = Unit {0}
OfInner P (Some set) = P set

-- it holds of each set that these selections carry
abbrev pub OfEach : (SelectionSet → Type 0) → List Selection → Type 0
OfEach P [] = Unit {0}
OfEach P (selection ∷ rest) = OfInner P (inner_set selection) × OfEach P rest

module _ (P : SelectionSet → Type 0) (step : (set : SelectionSet) → OfEach P (selections_of set) → P set) where
  abbrev OfSelection : Selection → Type 0
  OfSelection selection = OfInner P (inner_set selection)

  abbrev OfField : Field → Type 0
  OfField field = OfInner P (set_of_field field)

  abbrev OfInline : InlineFragment → Type 0
  OfInline fragment = P fragment.selection_set

  in_selection : (y : Selection-F ((x : Selection) × OfSelection x) ((x : Field) × OfField x) ((x : InlineFragment) × OfInline x) ((x : SelectionSet) × P x)) → OfInner P (inner_set_in (map-Selection _ _ _ _ _ _ _ _ (λ e. e.0) (λ e. e.0) (λ e. e.0) (λ e. e.0) y))
  in_selection (Selection-F.Field e) = e.1
  in_selection (Selection-F.Spread s) = tt
  in_selection (Selection-F.Inline e) = e.1

  in_field : (y : Field-F ((x : Selection) × OfSelection x) ((x : Field) × OfField x) ((x : InlineFragment) × OfInline x) ((x : SelectionSet) × P x)) (set : Option ((x : SelectionSet) × P x))
      → OfInner P (map-Field _ _ _ _ _ _ _ _ (λ e. e.0) (λ e. e.0) (λ e. e.0) (λ e. e.0) (record y { selection_set = set })).selection_set
  in_field y None = tt
  in_field y (Some e) = e.1

  each : (ys : List ((x : Selection) × OfSelection x)) → OfEach P (map (λ e. e.0) ys)
  each [] = tt
  each (y ∷ ys) = (y.1, each ys)

  pub set_induction : (set : SelectionSet) → P set
  set_induction = ind-SelectionSet OfSelection OfField OfInline P
      (λ x y is. subst (λ z. OfInner P (inner_set_in z)) (is ∙ sym (out-roll-Selection x)) (in_selection y))
      (λ x y is. subst (λ (z : Field-F Selection Field InlineFragment SelectionSet). OfInner P z.selection_set) (is ∙ sym (out-roll-Field x)) (in_field y y.selection_set))
      (λ x y is. subst (λ (z : InlineFragment-F Selection Field InlineFragment SelectionSet). P z.selection_set) is y.selection_set.1)
      (λ x y is. step (roll-SelectionSet x) (subst (λ (z : SelectionSet-F Selection Field InlineFragment SelectionSet). OfEach P z.selections) (is ∙ sym (out-roll-SelectionSet x)) (each y.selections)))
