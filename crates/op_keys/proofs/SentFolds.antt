-- One level of what is sent.
use Rattle.std.proofs.Common.{◌≡◌, Bool, true, false, ◌||◌, List, [], ◌∷◌, ◌++◌, map, Option, Some, None, refl, sym, ap, ap₂, ◌∙◌}
use Rattle.std.specs.Option.{option_map}
use Rattle.std.specs.List.{list_any}
use Rattle.gql_tokens.specs.declared.token.Place.{Place}
use Rattle.gql_model.specs.declared.name.Name.{Name}
use Rattle.gql_model.specs.declared.selection.Argument.{Argument}
use Rattle.gql_model.specs.declared.selection.Directive.{Directive}
use Rattle.gql_model.specs.declared.selection.SelectionSet.{SelectionSet, roll-SelectionSet, out-SelectionSet}
use Rattle.gql_model.specs.declared.selection.Selection.{Selection, roll-Selection, out-Selection}
use Rattle.gql_model.specs.declared.selection.Field.{Field, roll-Field, out-Field}
use Rattle.gql_model.specs.declared.selection.InlineFragment.{InlineFragment, roll-InlineFragment, out-InlineFragment}
use Rattle.gql_model.specs.declared.selection.Selection.TheOpen.{SelectionSet-F, Selection-F, Field-F, InlineFragment-F}
use Rattle.gql_model.specs.declared.selection.Selection.TheFolds.{map-Selection, map-Field, fold_out-SelectionSet, fold_out-Selection, fold_out-Field, fold_out-InlineFragment, fold-roll-SelectionSet, fold-roll-Selection, fold-roll-Field, fold-roll-InlineFragment}
use Rattle.schema_model.specs.declared.schema.Schema.{Schema}
use Rattle.check_model.specs.FieldTypes.{Parent, field_parent, inline_parent}
use Rattle.execution_model.specs.Fronts.{Owner, OfField, OfFragment, is_plain_typename, is_fronted}
use Rattle.op_keys.specs.Sent.{SentIn, SetSent, SelectionSent, FieldSent, field_sent, inline_sent, selection_sent, set_sent, sent_set, sent_selection, sent_field, sent_inline, with_front}
use Rattle.op_keys.specs.Plain.{is_plain_field, is_plain_form, is_plain}

-- ---- fields

abbrev field_level : Schema → Bool → Field-F Selection Field InlineFragment SelectionSet → FieldSent
field_level schema subscribes f =
    field_sent schema (map-Field Selection Field InlineFragment SelectionSet SelectionSent FieldSent (SentIn InlineFragment) SetSent (sent_selection schema subscribes) (sent_field schema subscribes) (sent_inline schema subscribes) (sent_set schema subscribes) f)

field_out : (schema : Schema) (subscribes : Bool) (field : Field) → sent_field schema subscribes field ≡ field_level schema subscribes (out-Field field)
field_out schema subscribes field = fold_out-Field SelectionSent FieldSent (SentIn InlineFragment) SetSent selection_sent (field_sent schema) (inline_sent schema) (set_sent schema subscribes) field

-- the set of a field as it is sent
abbrev pub below : Schema → Bool → Parent → Option SelectionSet → Option SelectionSet
below schema subscribes parent set = option_map (λ s. s OfField parent) (option_map (sent_set schema subscribes) set)

-- a field as it is sent, part by part
abbrev pub field_form : Schema → Bool → Parent → Option Name → Name → List Argument → List Directive → Option SelectionSet → Field
field_form schema subscribes parent alias name arguments directives set = roll-Field (record {
  alias = alias;
  name = name;
  arguments = arguments;
  directives = directives;
  selection_set = below schema subscribes (field_parent schema parent name.text) set;
})

field_layer : (schema : Schema) (subscribes : Bool) (parent : Parent) (alias : Option Name) (name : Name) (arguments : List Argument) (directives : List Directive) (set : Option SelectionSet)
    → (field_level schema subscribes (record { alias = alias; name = name; arguments = arguments; directives = directives; selection_set = set })).sent parent
    ≡ field_form schema subscribes parent alias name arguments directives set
field_layer schema subscribes parent alias name arguments directives None = refl
field_layer schema subscribes parent alias name arguments directives (Some set) = refl

pub sent_field_out : (schema : Schema) (subscribes : Bool) (parent : Parent) (field : Field)
    → (sent_field schema subscribes field).sent parent
    ≡ field_form schema subscribes parent (out-Field field).alias (out-Field field).name (out-Field field).arguments (out-Field field).directives (out-Field field).selection_set
sent_field_out schema subscribes parent field =
    ap (λ (f : FieldSent). f.sent parent) (field_out schema subscribes field)
    ∙ field_layer schema subscribes parent (out-Field field).alias (out-Field field).name (out-Field field).arguments (out-Field field).directives (out-Field field).selection_set

pub sent_field_roll : (schema : Schema) (subscribes : Bool) (parent : Parent) (alias : Option Name) (name : Name) (arguments : List Argument) (directives : List Directive) (set : Option SelectionSet)
    → (sent_field schema subscribes (roll-Field (record { alias = alias; name = name; arguments = arguments; directives = directives; selection_set = set }))).sent parent
    ≡ field_form schema subscribes parent alias name arguments directives set
sent_field_roll schema subscribes parent alias name arguments directives set =
    ap (λ (f : FieldSent). f.sent parent)
    (fold-roll-Field SelectionSent FieldSent (SentIn InlineFragment) SetSent selection_sent (field_sent schema) (inline_sent schema) (set_sent schema subscribes)
    (record { alias = alias; name = name; arguments = arguments; directives = directives; selection_set = set }))
    ∙ field_layer schema subscribes parent alias name arguments directives set

plain_layer : (schema : Schema) (subscribes : Bool) (alias : Option Name) (name : Name) (arguments : List Argument) (directives : List Directive) (set : Option SelectionSet)
    → (field_level schema subscribes (record { alias = alias; name = name; arguments = arguments; directives = directives; selection_set = set })).plain
    ≡ is_plain_typename alias name.text directives
plain_layer schema subscribes alias name arguments directives None = refl
plain_layer schema subscribes alias name arguments directives (Some set) = refl

plain_field : (schema : Schema) (subscribes : Bool) (field : Field) → (sent_field schema subscribes field).plain ≡ is_plain_field field
plain_field schema subscribes field =
    ap (λ (f : FieldSent). f.plain) (field_out schema subscribes field)
    ∙ plain_layer schema subscribes (out-Field field).alias (out-Field field).name (out-Field field).arguments (out-Field field).directives (out-Field field).selection_set

-- ---- inline fragments

pub sent_inline_out : (schema : Schema) (subscribes : Bool) (parent : Parent) (fragment : InlineFragment)
    → sent_inline schema subscribes fragment parent
    ≡ roll-InlineFragment (record {
      place = (out-InlineFragment fragment).place;
      type_condition = (out-InlineFragment fragment).type_condition;
      directives = (out-InlineFragment fragment).directives;
      selection_set = sent_set schema subscribes (out-InlineFragment fragment).selection_set OfFragment (inline_parent schema parent (out-InlineFragment fragment).type_condition);
    })
sent_inline_out schema subscribes parent fragment =
    ap (λ (f : SentIn InlineFragment). f parent)
    (fold_out-InlineFragment SelectionSent FieldSent (SentIn InlineFragment) SetSent selection_sent (field_sent schema) (inline_sent schema) (set_sent schema subscribes) fragment)

pub sent_inline_roll : (schema : Schema) (subscribes : Bool) (parent : Parent) (f : InlineFragment-F Selection Field InlineFragment SelectionSet)
    → sent_inline schema subscribes (roll-InlineFragment f) parent
    ≡ roll-InlineFragment (record f { selection_set = sent_set schema subscribes f.selection_set OfFragment (inline_parent schema parent f.type_condition) })
sent_inline_roll schema subscribes parent f =
    ap (λ (g : SentIn InlineFragment). g parent)
    (fold-roll-InlineFragment SelectionSent FieldSent (SentIn InlineFragment) SetSent selection_sent (field_sent schema) (inline_sent schema) (set_sent schema subscribes) f)

-- ---- selections

abbrev pub selection_level : Schema → Bool → Selection-F Selection Field InlineFragment SelectionSet → SelectionSent
selection_level schema subscribes s =
    selection_sent (map-Selection Selection Field InlineFragment SelectionSet SelectionSent FieldSent (SentIn InlineFragment) SetSent (sent_selection schema subscribes) (sent_field schema subscribes) (sent_inline schema subscribes) (sent_set schema subscribes) s)

pub sent_selection_out : (schema : Schema) (subscribes : Bool) (s : Selection) → sent_selection schema subscribes s ≡ selection_level schema subscribes (out-Selection s)
sent_selection_out schema subscribes s = fold_out-Selection SelectionSent FieldSent (SentIn InlineFragment) SetSent selection_sent (field_sent schema) (inline_sent schema) (set_sent schema subscribes) s

pub sent_selection_roll : (schema : Schema) (subscribes : Bool) (s : Selection-F Selection Field InlineFragment SelectionSet) → sent_selection schema subscribes (roll-Selection s) ≡ selection_level schema subscribes s
sent_selection_roll schema subscribes s = fold-roll-Selection SelectionSent FieldSent (SentIn InlineFragment) SetSent selection_sent (field_sent schema) (inline_sent schema) (set_sent schema subscribes) s

plain_form : (schema : Schema) (subscribes : Bool) (s : Selection-F Selection Field InlineFragment SelectionSet) → (selection_level schema subscribes s).plain ≡ is_plain_form s
plain_form schema subscribes (Selection-F.Field field) = plain_field schema subscribes field
plain_form schema subscribes (Selection-F.Spread spread) = refl
plain_form schema subscribes (Selection-F.Inline fragment) = refl

plain_selection : (schema : Schema) (subscribes : Bool) (s : Selection) → (sent_selection schema subscribes s).plain ≡ is_plain s
plain_selection schema subscribes s = ap (λ (f : SelectionSent). f.plain) (sent_selection_out schema subscribes s) ∙ plain_form schema subscribes (out-Selection s)

pub plain_selections : (schema : Schema) (subscribes : Bool) (all : List Selection) → list_any (λ s. s.plain) (map (sent_selection schema subscribes) all) ≡ list_any is_plain all
plain_selections schema subscribes [] = refl
plain_selections schema subscribes (s ∷ all) = ap₂ (λ (a b : Bool). a || b) (plain_selection schema subscribes s) (plain_selections schema subscribes all)

-- ---- sets

-- selections as they are sent in a set of a type
abbrev pub sent_in : Schema → Bool → Parent → List Selection → List Selection
sent_in schema subscribes parent all = map (λ s. s.sent parent) (map (sent_selection schema subscribes) all)

-- a set as it is sent, part by part
abbrev pub set_form : Schema → Bool → Owner → Parent → Place → List Selection → SelectionSet
set_form schema subscribes owner parent place all = roll-SelectionSet (record {
  place = place;
  selections = with_front (is_fronted schema subscribes owner parent (list_any is_plain all)) place (sent_in schema subscribes parent all);
})

pub sent_set_out : (schema : Schema) (subscribes : Bool) (owner : Owner) (parent : Parent) (set : SelectionSet)
    → sent_set schema subscribes set owner parent ≡ set_form schema subscribes owner parent (out-SelectionSet set).place (out-SelectionSet set).selections
sent_set_out schema subscribes owner parent set =
    let s = out-SelectionSet set in
    ap (λ (f : SetSent). f owner parent)
    (fold_out-SelectionSet SelectionSent FieldSent (SentIn InlineFragment) SetSent selection_sent (field_sent schema) (inline_sent schema) (set_sent schema subscribes) set)
    ∙ ap (λ (selects : Bool). roll-SelectionSet (record { place = s.place; selections = with_front (is_fronted schema subscribes owner parent selects) s.place (sent_in schema subscribes parent s.selections) }))
    (plain_selections schema subscribes s.selections)

pub sent_set_roll : (schema : Schema) (subscribes : Bool) (owner : Owner) (parent : Parent) (place : Place) (all : List Selection)
    → sent_set schema subscribes (roll-SelectionSet (record { place = place; selections = all })) owner parent ≡ set_form schema subscribes owner parent place all
sent_set_roll schema subscribes owner parent place all =
    ap (λ (f : SetSent). f owner parent)
    (fold-roll-SelectionSet SelectionSent FieldSent (SentIn InlineFragment) SetSent selection_sent (field_sent schema) (inline_sent schema) (set_sent schema subscribes) (record { place = place; selections = all }))
    ∙ ap (λ (selects : Bool). roll-SelectionSet (record { place = place; selections = with_front (is_fronted schema subscribes owner parent selects) place (sent_in schema subscribes parent all) }))
    (plain_selections schema subscribes all)

pub front_more : (fronted : Bool) (place : Place) (all more : List Selection) → with_front fronted place all ++ more ≡ with_front fronted place (all ++ more)
front_more true place all more = refl
front_more false place all more = refl
