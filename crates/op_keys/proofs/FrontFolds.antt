-- One level of the sets that get `__typename` at their front.
use Rattle.std.proofs.Common.{◌≡◌, Bool, ◌||◌, List, [], ◌∷◌, ◌++◌, map, Option, Some, None, refl, sym, ap, ap₂, ◌∙◌, append_assoc}
use Rattle.std.specs.Prelude.{OnOk}
use Rattle.std.specs.declared.result.Result.{Result}
use Rattle.std.specs.declared.result.Result.TheVariants.{Ok, Err}
use Rattle.std.specs.Option.{option_map}
use Rattle.std.specs.List.{flat_map, list_any}
use Rattle.gql_model.specs.declared.name.Name.{Name}
use Rattle.gql_model.specs.declared.selection.Argument.{Argument}
use Rattle.gql_model.specs.declared.selection.Directive.{Directive}
use Rattle.gql_model.specs.declared.selection.SelectionSet.{SelectionSet, out-SelectionSet}
use Rattle.gql_model.specs.declared.selection.Selection.{Selection, out-Selection}
use Rattle.gql_model.specs.declared.selection.Field.{Field, out-Field}
use Rattle.gql_model.specs.declared.selection.InlineFragment.{InlineFragment, out-InlineFragment}
use Rattle.gql_model.specs.declared.selection.Selection.TheOpen.{Selection-F, Field-F}
use Rattle.gql_model.specs.declared.selection.Selection.TheFolds.{map-Selection, map-Field, fold_out-SelectionSet, fold_out-Selection, fold_out-Field, fold_out-InlineFragment}
use Rattle.schema_model.specs.declared.schema.Schema.{Schema}
use Rattle.check_model.specs.FieldTypes.{Parent, field_parent, inline_parent}
use Rattle.execution_model.specs.Fronts.{Owner, Fronts, FrontsIn, Fronting, is_plain_typename, is_fronted, selects_plainly, fronts_below, selection_fronts, field_fronts, inline_fronts, set_fronts, fronts_in_set, fronts_in_selection}
use Rattle.op_keys.specs.Plain.{is_plain_field, is_plain_form, is_plain}
use Rattle.op_keys.specs.FrontFolds.{fronts_in_field, fronts_in_inline}

-- ---- fields

abbrev field_level : Schema → Bool → Field-F Selection Field InlineFragment SelectionSet → Fronting
field_level schema subscribes f =
    field_fronts schema (map-Field Selection Field InlineFragment SelectionSet Fronting Fronting FrontsIn FrontsIn (fronts_in_selection schema subscribes) (fronts_in_field schema subscribes) (fronts_in_inline schema subscribes) (fronts_in_set schema subscribes) f)

field_out : (schema : Schema) (subscribes : Bool) (field : Field) → fronts_in_field schema subscribes field ≡ field_level schema subscribes (out-Field field)
field_out schema subscribes field = fold_out-Field Fronting Fronting FrontsIn FrontsIn selection_fronts (field_fronts schema) (inline_fronts schema) (set_fronts schema subscribes) field

inside_layer : (schema : Schema) (subscribes : Bool) (parent : Parent) (alias : Option Name) (name : Name) (arguments : List Argument) (directives : List Directive) (set : Option SelectionSet)
    → (field_level schema subscribes (record { alias = alias; name = name; arguments = arguments; directives = directives; selection_set = set })).inside parent
    ≡ fronts_below (option_map (fronts_in_set schema subscribes) set) (field_parent schema parent name.text)
inside_layer schema subscribes parent alias name arguments directives None = refl
inside_layer schema subscribes parent alias name arguments directives (Some set) = refl

pub fronts_in_field_out : (schema : Schema) (subscribes : Bool) (parent : Parent) (field : Field)
    → (fronts_in_field schema subscribes field).inside parent
    ≡ fronts_below (option_map (fronts_in_set schema subscribes) (out-Field field).selection_set) (field_parent schema parent (out-Field field).name.text)
fronts_in_field_out schema subscribes parent field =
    ap (λ (f : Fronting). f.inside parent) (field_out schema subscribes field)
    ∙ inside_layer schema subscribes parent (out-Field field).alias (out-Field field).name (out-Field field).arguments (out-Field field).directives (out-Field field).selection_set

plain_layer : (schema : Schema) (subscribes : Bool) (alias : Option Name) (name : Name) (arguments : List Argument) (directives : List Directive) (set : Option SelectionSet)
    → (field_level schema subscribes (record { alias = alias; name = name; arguments = arguments; directives = directives; selection_set = set })).plain
    ≡ is_plain_typename alias name.text directives
plain_layer schema subscribes alias name arguments directives None = refl
plain_layer schema subscribes alias name arguments directives (Some set) = refl

plain_field : (schema : Schema) (subscribes : Bool) (field : Field) → (fronts_in_field schema subscribes field).plain ≡ is_plain_field field
plain_field schema subscribes field =
    ap (λ (f : Fronting). f.plain) (field_out schema subscribes field)
    ∙ plain_layer schema subscribes (out-Field field).alias (out-Field field).name (out-Field field).arguments (out-Field field).directives (out-Field field).selection_set

-- ---- inline fragments

pub fronts_in_inline_out : (schema : Schema) (subscribes : Bool) (owner : Owner) (parent : Parent) (fragment : InlineFragment)
    → fronts_in_inline schema subscribes fragment owner parent
    ≡ fronts_in_set schema subscribes (out-InlineFragment fragment).selection_set owner (inline_parent schema parent (out-InlineFragment fragment).type_condition)
fronts_in_inline_out schema subscribes owner parent fragment =
    ap (λ (f : FrontsIn). f owner parent)
    (fold_out-InlineFragment Fronting Fronting FrontsIn FrontsIn selection_fronts (field_fronts schema) (inline_fronts schema) (set_fronts schema subscribes) fragment)

-- ---- selections

abbrev pub selection_level : Schema → Bool → Selection-F Selection Field InlineFragment SelectionSet → Fronting
selection_level schema subscribes s =
    selection_fronts (map-Selection Selection Field InlineFragment SelectionSet Fronting Fronting FrontsIn FrontsIn (fronts_in_selection schema subscribes) (fronts_in_field schema subscribes) (fronts_in_inline schema subscribes) (fronts_in_set schema subscribes) s)

pub fronts_in_selection_out : (schema : Schema) (subscribes : Bool) (s : Selection) → fronts_in_selection schema subscribes s ≡ selection_level schema subscribes (out-Selection s)
fronts_in_selection_out schema subscribes s = fold_out-Selection Fronting Fronting FrontsIn FrontsIn selection_fronts (field_fronts schema) (inline_fronts schema) (set_fronts schema subscribes) s

plain_form : (schema : Schema) (subscribes : Bool) (s : Selection-F Selection Field InlineFragment SelectionSet) → (selection_level schema subscribes s).plain ≡ is_plain_form s
plain_form schema subscribes (Selection-F.Field field) = plain_field schema subscribes field
plain_form schema subscribes (Selection-F.Spread spread) = refl
plain_form schema subscribes (Selection-F.Inline fragment) = refl

plain_selections : (schema : Schema) (subscribes : Bool) (all : List Selection) → selects_plainly (map (fronts_in_selection schema subscribes) all) ≡ list_any is_plain all
plain_selections schema subscribes [] = refl
plain_selections schema subscribes (s ∷ all) =
    ap₂ (λ (a b : Bool). a || b) (ap (λ (f : Fronting). f.plain) (fronts_in_selection_out schema subscribes s) ∙ plain_form schema subscribes (out-Selection s)) (plain_selections schema subscribes all)

-- ---- sets

-- the sets in selections that stand in a set of a type
abbrev pub fronts_inside : Schema → Bool → Parent → List Selection → Fronts
fronts_inside schema subscribes parent all = flat_map (λ s. s.inside parent) (map (fronts_in_selection schema subscribes) all)

pub fronts_in_set_out : (schema : Schema) (subscribes : Bool) (owner : Owner) (parent : Parent) (set : SelectionSet)
    → fronts_in_set schema subscribes set owner parent
    ≡ is_fronted schema subscribes owner parent (list_any is_plain (out-SelectionSet set).selections) ∷ fronts_inside schema subscribes parent (out-SelectionSet set).selections
fronts_in_set_out schema subscribes owner parent set =
    let all = (out-SelectionSet set).selections in
    ap (λ (f : FrontsIn). f owner parent)
    (fold_out-SelectionSet Fronting Fronting FrontsIn FrontsIn selection_fronts (field_fronts schema) (inline_fronts schema) (set_fronts schema subscribes) set)
    ∙ ap (λ (selects : Bool). is_fronted schema subscribes owner parent selects ∷ fronts_inside schema subscribes parent all) (plain_selections schema subscribes all)

-- one more is told, and then those inside
pub told_first : {T E : Type 0} (r : Result T E) (old begun new inside whole : Fronts) (b : Bool) → begun ≡ old ++ b ∷ [] → whole ≡ b ∷ inside → OnOk r (new ≡ begun ++ inside) → OnOk r (new ≡ old ++ whole)
told_first (Ok x) old begun new inside whole b m w h = h ∙ ap (λ (l : Fronts). l ++ inside) m ∙ append_assoc old (b ∷ []) inside ∙ ap (λ (l : Fronts). old ++ l) (sym w)
told_first (Err e) old begun new inside whole b m w h = tt
