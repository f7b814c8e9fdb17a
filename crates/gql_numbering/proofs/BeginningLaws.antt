-- What begins in a set and in a selection, level by level.
use Rattle.std.proofs.Common.{◌≡◌, List, [], ◌∷◌, Option, Some, None, map, refl, ap, ◌∙◌}
use Rattle.std.specs.List.{flat_map}
use Rattle.gql_model.specs.declared.selection.SelectionSet.{SelectionSet}
use Rattle.gql_model.specs.declared.selection.Selection.{Selection, out-Selection, map-Selection}
use Rattle.gql_model.specs.declared.selection.Selection.TheOpen.{Selection-F, Field-F}
use Rattle.gql_model.specs.declared.selection.Selection.TheFolds.{fold-Field, fold-InlineFragment, fold_out-SelectionSet, fold_out-Selection, fold_out-Field, fold_out-InlineFragment}
use Rattle.gql_model.specs.declared.selection.Field.{Field, out-Field, map-Field}
use Rattle.gql_model.specs.declared.selection.InlineFragment.{InlineFragment}
use Rattle.gql_numbering.specs.Parts.{selections_of, set_of_field, inner_set, inner_set_in}
use Rattle.gql_numbering.specs.Beginnings.{OfSet, Inside, in_inner, in_selections, in_selection, in_field, in_inline, in_set, inside_set, inside_selection, beginnings_in, beginnings_in_optional, beginnings_at}

abbrev inside_field : Field → Option Inside
inside_field = fold-Field (Option Inside) (Option Inside) Inside Inside in_selection in_field in_inline in_set

abbrev inside_inline : InlineFragment → Inside
inside_inline = fold-InlineFragment (Option Inside) (Option Inside) Inside Inside in_selection in_field in_inline in_set

in_optional : (f : Field-F Selection Field InlineFragment SelectionSet) (set : Option SelectionSet)
    → in_inner (map-Field _ _ _ _ _ _ _ _ inside_selection inside_field inside_inline inside_set (record f { selection_set = set })).selection_set set ≡ beginnings_in_optional set
in_optional f None = refl
in_optional f (Some set) = refl

of_field : (field : Field) → in_inner (inside_field field) (set_of_field field) ≡ beginnings_in_optional (set_of_field field)
of_field field = ap (λ inside. in_inner inside (set_of_field field)) (fold_out-Field _ _ _ _ in_selection in_field in_inline in_set field) ∙ in_optional (out-Field field) (set_of_field field)

of_inline : (fragment : InlineFragment) → in_inner (Some (inside_inline fragment)) (Some fragment.selection_set) ≡ beginnings_in fragment.selection_set
of_inline fragment = ap (λ inside. in_inner (Some inside) (Some fragment.selection_set)) (fold_out-InlineFragment _ _ _ _ in_selection in_field in_inline in_set fragment)

level : (x : Selection-F Selection Field InlineFragment SelectionSet) → in_inner (in_selection (map-Selection _ _ _ _ _ _ _ _ inside_selection inside_field inside_inline inside_set x)) (inner_set_in x) ≡ beginnings_in_optional (inner_set_in x)
level (Selection-F.Field field) = of_field field
level (Selection-F.Spread spread) = refl
level (Selection-F.Inline fragment) = of_inline fragment

of_selection : (selection : Selection) → in_inner (inside_selection selection) (inner_set selection) ≡ beginnings_in_optional (inner_set selection)
of_selection selection = ap (λ inside. in_inner inside (inner_set selection)) (fold_out-Selection _ _ _ _ in_selection in_field in_inline in_set selection) ∙ level (out-Selection selection)

of_selections : (xs : List Selection) → in_selections (map inside_selection xs) xs ≡ flat_map beginnings_at xs
of_selections [] = refl
of_selections (x ∷ xs) = rw (of_selection x, of_selections xs)

-- a set begins, and then what begins at each of its selections
pub beginnings_in-set : (set : SelectionSet) → beginnings_in set ≡ OfSet set ∷ flat_map beginnings_at (selections_of set)
beginnings_in-set set = ap (λ (inside : Inside). inside set) (fold_out-SelectionSet _ _ _ _ in_selection in_field in_inline in_set set) ∙ ap (λ more. OfSet set ∷ more) (of_selections (selections_of set))
