-- Which sets are sent with `__typename` at their front.
use Rattle.std.proofs.Common.{◌≡◌, suc, Bool, true, false, List, [], ◌∷◌, ◌++◌, map, length, Option, Some, None, refl, sym, ap, subst, ◌∙◌}
use Rattle.std.specs.Option.{option_map}
use Rattle.std.specs.List.{flat_map, list_any}
use Rattle.gql_tokens.specs.declared.token.Place.{Place}
use Rattle.gql_model.specs.declared.selection.SelectionSet.{SelectionSet, out-SelectionSet}
use Rattle.gql_model.specs.declared.selection.Selection.{Selection, roll-Selection, out-Selection}
use Rattle.gql_model.specs.declared.selection.Selection.TheOpen.{SelectionSet-F, Selection-F, Field-F}
use Rattle.gql_model.specs.declared.selection.Selection.TheViews.{out-roll-Selection, out-roll-Field, out-roll-SelectionSet}
use Rattle.gql_model.specs.declared.selection.Field.{Field, out-Field}
use Rattle.gql_model.specs.declared.selection.InlineFragment.{InlineFragment, out-InlineFragment}
use Rattle.gql_model.specs.declared.document.Definition.{Definition}
use Rattle.gql_model.specs.declared.document.Definition.TheVariants as definition
use Rattle.gql_numbering.specs.Parts.{selections_of, set_of_field, inner_set, inner_set_in}
use Rattle.gql_numbering.specs.Beginnings.{beginnings_at, beginnings_in_definition, sets_among}
use Rattle.schema_model.specs.declared.schema.Schema.{Schema}
use Rattle.check_model.specs.FieldTypes.{Parent, composite_named, root_parent, inline_parent, field_parent}
use Rattle.execution_model.specs.Fronts.{Owner, OfOperation, OfField, OfFragment, Fronts, Fronting, is_fronted, fronts_below, fronts_in_set, fronts_in_selection, definition_fronts, has_subscription}
use Rattle.op_keys.specs.Sent.{SelectionSent, typename_name, typename_field, typename_selection, with_front, sent_set, sent_selection, sent_field, sent_inline, sent_definition}
use Rattle.op_keys.specs.Plain.{is_plain}
use Rattle.op_keys.proofs.FrontFolds as fronts
use Rattle.op_keys.proofs.FrontFolds.{fronts_in_field_out, fronts_in_inline_out, fronts_in_selection_out, fronts_inside, fronts_in_set_out}
use Rattle.op_keys.proofs.SentFolds as sent
use Rattle.op_keys.proofs.SentFolds.{below, sent_field_out, sent_inline_out, sent_selection_out, sent_in, set_form, sent_set_out}
use Rattle.sent_laws.specs.Fronted.{AreSentSo, FrontsTellWhatIsSent}
use Rattle.gql_numbering.proofs.Induction.{OfInner, OfEach, set_induction}
use Rattle.gql_numbering.proofs.Growth.{sets_among-append}
use Rattle.sent_laws.proofs.Sets.{sets_in, sets_inside, sets_if_any, sets_in-set, sets_inside-cons, sets_at}

so_append : (fs gs : Fronts) (es bs xs ys : List SelectionSet) → AreSentSo fs es xs → AreSentSo gs bs ys → AreSentSo (fs ++ gs) (es ++ bs) (xs ++ ys)
so_append [] gs [] bs [] ys h k = k
so_append [] gs [] bs (x ∷ xs) ys h k = absurd h
so_append [] gs (a ∷ es) bs xs ys h k = absurd h
so_append (f ∷ fs) gs [] bs xs ys h k = absurd h
so_append (f ∷ fs) gs (a ∷ es) bs [] ys h k = absurd h
so_append (f ∷ fs) gs (a ∷ es) bs (x ∷ xs) ys h k = (h.0, so_append fs gs es bs xs ys h.1 k)

so_as : (f g : Fronts) (a b x y : List SelectionSet) → f ≡ g → a ≡ b → x ≡ y → AreSentSo g b y → AreSentSo f a x
so_as f g a b x y is_f is_a is_x h =
    subst (λ (f : Fronts). AreSentSo f a x) (sym is_f)
    (subst (λ (a : List SelectionSet). AreSentSo g a x) (sym is_a) (subst (λ (x : List SelectionSet). AreSentSo g b x) (sym is_x) h))

-- ---- the field that is put in has no set

no_set : (place : Place) → inner_set (typename_selection place) ≡ None
no_set place =
    ap inner_set_in (out-roll-Selection (Selection-F.Field (typename_field place)))
    ∙ ap (λ (f : Field-F Selection Field InlineFragment SelectionSet). f.selection_set)
    (out-roll-Field (record { alias = None; name = typename_name place; arguments = []; directives = []; selection_set = None }))

sets_with_front : (front : Bool) (place : Place) (all : List Selection) → sets_inside (with_front front place all) ≡ sets_inside all
sets_with_front true place all =
    sets_inside-cons (typename_selection place) all
    ∙ ap (λ (sets : List SelectionSet). sets ++ sets_inside all) (sets_at (typename_selection place) ∙ ap sets_if_any (no_set place))
sets_with_front false place all = refl

module _ (schema : Schema) (subscribes : Bool) where
  abbrev SentSo : SelectionSet → Type 0
  SentSo set = (owner : Owner) (parent : Parent) → AreSentSo (fronts_in_set schema subscribes set owner parent) (sets_in set) (sets_in (sent_set schema subscribes set owner parent))

  -- ---- selections

  so_below : (set : Option SelectionSet) → OfInner SentSo set → (parent : Parent)
      → AreSentSo (fronts_below (option_map (fronts_in_set schema subscribes) set) parent) (sets_if_any set) (sets_if_any (below schema subscribes parent set))
  so_below None h parent = tt
  so_below (Some set) h parent = h OfField parent

  field_set : (parent : Parent) (field : Field)
      → inner_set (roll-Selection (Selection-F.Field ((sent_field schema subscribes field).sent parent)))
      ≡ below schema subscribes (field_parent schema parent (out-Field field).name.text) (out-Field field).selection_set
  field_set parent field =
      ap inner_set_in (out-roll-Selection (Selection-F.Field ((sent_field schema subscribes field).sent parent)))
      ∙ ap set_of_field (sent_field_out schema subscribes parent field)
      ∙ ap (λ (f : Field-F Selection Field InlineFragment SelectionSet). f.selection_set)
      (out-roll-Field (record {
        alias = (out-Field field).alias;
        name = (out-Field field).name;
        arguments = (out-Field field).arguments;
        directives = (out-Field field).directives;
        selection_set = below schema subscribes (field_parent schema parent (out-Field field).name.text) (out-Field field).selection_set;
      }))

  inline_set : (parent : Parent) (fragment : InlineFragment)
      → inner_set (roll-Selection (Selection-F.Inline (sent_inline schema subscribes fragment parent)))
      ≡ Some (sent_set schema subscribes (out-InlineFragment fragment).selection_set OfFragment (inline_parent schema parent (out-InlineFragment fragment).type_condition))
  inline_set parent fragment =
      ap inner_set_in (out-roll-Selection (Selection-F.Inline (sent_inline schema subscribes fragment parent)))
      ∙ ap (λ (f : InlineFragment). Some f.selection_set) (sent_inline_out schema subscribes parent fragment)

  so_form : (s : Selection-F Selection Field InlineFragment SelectionSet) → OfInner SentSo (inner_set_in s) → (parent : Parent)
      → AreSentSo ((fronts.selection_level schema subscribes s).inside parent) (sets_if_any (inner_set_in s)) (sets_if_any (inner_set ((sent.selection_level schema subscribes s).sent parent)))
  so_form (Selection-F.Field field) h parent =
      so_as _ _ _ _ _ _ (fronts_in_field_out schema subscribes parent field) refl (ap sets_if_any (field_set parent field))
      (so_below (out-Field field).selection_set h (field_parent schema parent (out-Field field).name.text))
  so_form (Selection-F.Spread spread) h parent = so_as [] [] [] [] _ [] refl refl (ap (λ s. sets_if_any (inner_set_in s)) (out-roll-Selection (Selection-F.Spread spread))) tt
  so_form (Selection-F.Inline fragment) h parent =
      so_as _ _ _ _ _ _ (fronts_in_inline_out schema subscribes OfFragment parent fragment) refl (ap sets_if_any (inline_set parent fragment))
      (h OfFragment (inline_parent schema parent (out-InlineFragment fragment).type_condition))

  so_selection : (s : Selection) → OfInner SentSo (inner_set s) → (parent : Parent)
      → AreSentSo ((fronts_in_selection schema subscribes s).inside parent) (sets_among (beginnings_at s)) (sets_among (beginnings_at ((sent_selection schema subscribes s).sent parent)))
  so_selection s h parent =
      so_as _ _ _ _ _ _ (ap (λ (f : Fronting). f.inside parent) (fronts_in_selection_out schema subscribes s)) (sets_at s)
      (sets_at ((sent_selection schema subscribes s).sent parent) ∙ ap (λ (f : SelectionSent). sets_if_any (inner_set (f.sent parent))) (sent_selection_out schema subscribes s))
      (so_form (out-Selection s) h parent)

  so_selections : (all : List Selection) → OfEach SentSo all → (parent : Parent)
      → AreSentSo (fronts_inside schema subscribes parent all) (sets_inside all) (sets_inside (sent_in schema subscribes parent all))
  so_selections [] h parent = tt
  so_selections (s ∷ all) h parent =
      so_as _ _ _ _ _ _ refl (sets_inside-cons s all) (sets_inside-cons ((sent_selection schema subscribes s).sent parent) (sent_in schema subscribes parent all))
      (so_append ((fronts_in_selection schema subscribes s).inside parent) (fronts_inside schema subscribes parent all) _ _ _ _ (so_selection s h.0 parent) (so_selections all h.1 parent))

  -- ---- sets

  as_many : (parent : Parent) (all : List Selection) → length (sent_in schema subscribes parent all) ≡ length all
  as_many parent [] = refl
  as_many parent (s ∷ all) = ap suc (as_many parent all)

  form_selections : (owner : Owner) (parent : Parent) (place : Place) (all : List Selection)
      → selections_of (set_form schema subscribes owner parent place all) ≡ with_front (is_fronted schema subscribes owner parent (list_any is_plain all)) place (sent_in schema subscribes parent all)
  form_selections owner parent place all =
      ap (λ (s : SelectionSet-F Selection Field InlineFragment SelectionSet). s.selections)
      (out-roll-SelectionSet (record { place = place; selections = with_front (is_fronted schema subscribes owner parent (list_any is_plain all)) place (sent_in schema subscribes parent all) }))

  so_set : (set : SelectionSet) → OfEach SentSo (selections_of set) → SentSo set
  so_set set h owner parent =
      let all = selections_of set in
      let place = (out-SelectionSet set).place in
      let front = is_fronted schema subscribes owner parent (list_any is_plain all) in
      let own = sent_in schema subscribes parent all in
      let whole = set_form schema subscribes owner parent place all in
      let same = form_selections owner parent place all in
      so_as (fronts_in_set schema subscribes set owner parent) (front ∷ fronts_inside schema subscribes parent all)
      (sets_in set) (set ∷ sets_inside all)
      (sets_in (sent_set schema subscribes set owner parent)) (whole ∷ sets_inside own)
      (fronts_in_set_out schema subscribes owner parent set) (sets_in-set set)
      (ap sets_in (sent_set_out schema subscribes owner parent set) ∙ sets_in-set whole
      ∙ ap (λ (sets : List SelectionSet). whole ∷ sets) (ap sets_inside same ∙ sets_with_front front place own))
      (record { own = own; many = as_many parent all; selections = same }, so_selections all h parent)

  all_sent_so : (set : SelectionSet) → SentSo set
  all_sent_so = set_induction SentSo so_set

  -- ---- definitions

  so_definition : (d : Definition) → AreSentSo (definition_fronts schema subscribes d) (sets_among (beginnings_in_definition d)) (sets_among (beginnings_in_definition (sent_definition schema subscribes d)))
  so_definition (definition.Operation d) = all_sent_so d.selection_set OfOperation (root_parent schema d.kind)
  so_definition (definition.Fragment d) = all_sent_so d.selection_set OfFragment (composite_named schema d.type_condition.text)
  so_definition (definition.TypeSystem d) = tt

  abbrev sets_of_all : List Definition → List SelectionSet
  sets_of_all all = sets_among (flat_map beginnings_in_definition all)

  so_definitions : (all : List Definition) → AreSentSo (flat_map (definition_fronts schema subscribes) all) (sets_of_all all) (sets_of_all (map (sent_definition schema subscribes) all))
  so_definitions [] = tt
  so_definitions (d ∷ all) =
      so_as _ _ _ _ _ _ refl (sets_among-append (beginnings_in_definition d) (flat_map beginnings_in_definition all))
      (sets_among-append (beginnings_in_definition (sent_definition schema subscribes d)) (flat_map beginnings_in_definition (map (sent_definition schema subscribes) all)))
      (so_append (definition_fronts schema subscribes d) (flat_map (definition_fronts schema subscribes) all) _ _ _ _ (so_definition d) (so_definitions all))

pub fronts_tell : FrontsTellWhatIsSent
fronts_tell schema document = so_definitions schema (has_subscription document) document.definitions
