-- What numbering a set and a selection does, level by level.
use Rattle.std.proofs.Common.{◌≡◌, [], Option, Some, None, map, length, refl, ap, ◌∙◌}
use Rattle.gql_model.specs.declared.selection.SelectionSet.{SelectionSet}
use Rattle.gql_model.specs.declared.selection.Selection.{Selection, out-Selection, map-Selection}
use Rattle.gql_model.specs.declared.selection.Selection.TheOpen.{Selection-F, Field-F}
use Rattle.gql_model.specs.declared.selection.Selection.TheFolds.{fold-InlineFragment, fold_out-SelectionSet, fold_out-Selection, fold_out-Field, fold_out-InlineFragment}
use Rattle.gql_model.specs.declared.selection.Field.{Field, out-Field, map-Field}
use Rattle.gql_model.specs.declared.selection.InlineFragment.{InlineFragment}
use Rattle.gql_numbering.specs.declared.mark.Spot.{Spot}
use Rattle.gql_numbering.specs.declared.mark.Home.{Home}
use Rattle.gql_numbering.specs.declared.mark.Home.TheVariants as home
use Rattle.gql_numbering.specs.declared.numbering.Numbering.{Numbering}
use Rattle.gql_numbering.specs.Parts.{selections_of, set_of_field, inner_set, inner_set_in, as_field, as_field_in}
use Rattle.gql_numbering.specs.Numbered.{opened, with_field, closed, Hung, Spotted, optional_at, selection_step, field_step, inline_step, set_step, through, numbered_set, numbered_selection, numbered_field, numbered_optional}

-- a field that stands at the spot gets its number
abbrev pub standing : Option Field → Spot → Numbering → Numbering
standing None spot t = t
standing (Some field) spot t = with_field spot t

-- the field that a selection is, and then its set
abbrev pub numbered_at : Selection → Spot → Numbering → Numbering
numbered_at selection spot t = numbered_optional (inner_set selection) (home.Selection spot) (standing (as_field selection) spot t)

abbrev numbered_inline : InlineFragment → Hung
numbered_inline = fold-InlineFragment Spotted Spotted Hung Hung selection_step field_step inline_step set_step

in_optional : (f : Field-F Selection Field InlineFragment SelectionSet) (set : Option SelectionSet) (spot : Spot) (t : Numbering)
    → optional_at (map-Field _ _ _ _ _ _ _ _ numbered_selection numbered_field numbered_inline numbered_set (record f { selection_set = set })).selection_set spot t ≡ numbered_optional set (home.Selection spot) t
in_optional f None spot t = refl
in_optional f (Some set) spot t = refl

of_field : (field : Field) (spot : Spot) (t : Numbering) → numbered_field field spot t ≡ numbered_optional (set_of_field field) (home.Selection spot) (with_field spot t)
of_field field spot t = ap (λ (f : Spotted). f spot t) (fold_out-Field _ _ _ _ selection_step field_step inline_step set_step field) ∙ in_optional (out-Field field) (set_of_field field) spot (with_field spot t)

of_inline : (fragment : InlineFragment) (spot : Spot) (t : Numbering) → numbered_inline fragment (home.Selection spot) t ≡ numbered_set fragment.selection_set (home.Selection spot) t
of_inline fragment spot t = ap (λ (f : Hung). f (home.Selection spot) t) (fold_out-InlineFragment _ _ _ _ selection_step field_step inline_step set_step fragment)

level : (x : Selection-F Selection Field InlineFragment SelectionSet) (spot : Spot) (t : Numbering)
    → selection_step (map-Selection _ _ _ _ _ _ _ _ numbered_selection numbered_field numbered_inline numbered_set x) spot t ≡ numbered_optional (inner_set_in x) (home.Selection spot) (standing (as_field_in x) spot t)
level (Selection-F.Field field) spot t = of_field field spot t
level (Selection-F.Spread spread) spot t = refl
level (Selection-F.Inline fragment) spot t = of_inline fragment spot t

pub numbered_selection-at : (selection : Selection) (spot : Spot) (t : Numbering) → numbered_selection selection spot t ≡ numbered_at selection spot t
numbered_selection-at selection spot t = ap (λ (f : Spotted). f spot t) (fold_out-Selection _ _ _ _ selection_step field_step inline_step set_step selection) ∙ level (out-Selection selection) spot t

-- a set opens, its selections are gone through, and it closes
abbrev pub numbered_level : SelectionSet → Hung
numbered_level set here t = closed (length t.homes) (through (map numbered_selection (selections_of set)) (length t.homes) 0 (record { marks = []; numbering = opened here t }))

pub numbered_set-level : (set : SelectionSet) (here : Home) (t : Numbering) → numbered_set set here t ≡ numbered_level set here t
numbered_set-level set here t = ap (λ (f : Hung). f here t) (fold_out-SelectionSet _ _ _ _ selection_step field_step inline_step set_step set)
