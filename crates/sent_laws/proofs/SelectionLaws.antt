-- Selection sets as they are sent are derived.
use Rattle.std.proofs.Common.{◌≡◌, ℕ, zero, suc, Bool, true, false, List, [], ◌∷◌, map, Option, Some, None, refl, sym, ap, ◌∙◌, inr}
use Rattle.std.specs.Prelude.{codes}
use Rattle.std.specs.Option.{option_map}
use Rattle.std.specs.List.{list_any}
use Rattle.gql_tokens.specs.Tokens.{Token}
use Rattle.gql_tokens.specs.declared.token.Kind.TheVariants as kind
use Rattle.gql_tokens.specs.declared.token.Place.{Place}
use Rattle.gql_model.specs.declared.name.Name.{Name}
use Rattle.gql_model.specs.declared.selection.Argument.{Argument}
use Rattle.gql_model.specs.declared.selection.Directive.{Directive}
use Rattle.gql_model.specs.declared.selection.SelectionSet.{SelectionSet}
use Rattle.gql_model.specs.declared.selection.Selection.{Selection, roll-Selection}
use Rattle.gql_model.specs.declared.selection.Field.{Field, roll-Field}
use Rattle.gql_model.specs.declared.selection.InlineFragment.{InlineFragment, roll-InlineFragment}
use Rattle.gql_model.specs.declared.selection.Selection.TheOpen.{Selection-F, Field-F, InlineFragment-F}
use Rattle.gql_model.specs.declared.selection.Selection.TheFolds.{fold-roll-SelectionSet, fold-roll-Selection, fold-roll-Field, fold-roll-InlineFragment, map-Selection, map-Field}
use Rattle.gql_model.specs.Sorts.{mark}
use Rattle.gql_model.specs.Rules.{Rule, Many, Made, Either, Behind, Between, More, Depth, cons}
use Rattle.gql_model.specs.Selections.{field_of, FieldRule, field_selection, name_in_field, spread_of, SpreadRule, inline_of, InlineRule, SpreadingRule, SelectionRule, set_of, SetOver, SetRule}
use Rattle.schema_model.specs.declared.schema.Schema.{Schema}
use Rattle.check_model.specs.FieldTypes.{Parent, field_parent, inline_parent}
use Rattle.execution_model.specs.Fronts.{Owner, OfField, OfFragment, is_fronted}
use Rattle.op_keys.specs.Sent.{SentIn, SetSent, SelectionSent, FieldSent, typename_name, typename_field, typename_selection, field_sent, inline_sent, selection_sent, with_front, set_sent, sent_set, sent_selection, sent_field, sent_inline}
use Rattle.sent_laws.proofs.Grows.{Swells, Grows, same, grows_seq, grows_made, grows_either, grows_here, grows_opt, grows_nil, grows_cons, grows_behind, grows_between, many_of_more}

-- ---- the field that is put in

typename_token : Place → Token
typename_token place = record { kind = kind.Name; text = codes "__typename"; place = place }

typename_derived : (R : Rule SelectionSet) (place : Place) → SelectionRule R (typename_token place ∷ []) (typename_selection place)
unfolding typename_token
typename_derived R place = inr (record {
  of = typename_field place;
  is = refl;
  rule = record {
    of = (typename_name place, (None, ([], ([], None))));
    is = refl;
    rule = record {
      before = typename_token place ∷ [];
      after = [];
      whole = refl;
      first = (typename_token place, refl, refl);
      second = record {
        before = [];
        after = [];
        whole = refl;
        first = refl;
        second = record {
          before = [];
          after = [];
          whole = refl;
          first = record { of = None; is = refl; rule = refl };
          second = record { before = []; after = []; whole = refl; first = refl; second = refl };
        };
      };
    };
  };
})

swells_front : {R : Rule SelectionSet} {all more : List Selection} (b : Bool) (place : Place) → Grows (More (SelectionRule R)) all more → Swells (More (SelectionRule R)) all (with_front b place more)
unfolding typename_token
swells_front {R} {all} {more} true place l = record {
  law = λ front r h.
      let x = l.law front r h in
      record {
        tokens = typename_token place ∷ x.tokens;
        derives = record {
          of = (typename_selection place, more);
          is = refl;
          rule = record { before = typename_token place ∷ []; after = x.tokens; whole = refl; first = typename_derived R place; second = many_of_more x.derives };
        };
        printable = (λ _. refl, x.printable);
      };
}
swells_front false place l = record {
  law = λ front r h. let x = l.law front r h in record { tokens = x.tokens; derives = x.derives; printable = x.printable };
}

module _ (schema : Schema) (subscribes : Bool) where
  abbrev sent : SelectionSet → SetSent
  sent = sent_set schema subscribes

  -- ---- one level of what is sent

  abbrev field_at : Parent → Field → Field
  field_at parent field = (sent_field schema subscribes field).sent parent

  abbrev selection_at : Parent → Selection → Selection
  selection_at parent s = (sent_selection schema subscribes s).sent parent

  field_roll : (f : Field-F Selection Field InlineFragment SelectionSet)
      → sent_field schema subscribes (roll-Field f)
      ≡ field_sent schema (map-Field Selection Field InlineFragment SelectionSet SelectionSent FieldSent (SentIn InlineFragment) SetSent (sent_selection schema subscribes) (sent_field schema subscribes) (sent_inline schema subscribes) sent f)
  field_roll f = fold-roll-Field SelectionSent FieldSent (SentIn InlineFragment) SetSent selection_sent (field_sent schema) (inline_sent schema) (set_sent schema subscribes) f

  selection_roll : (s : Selection-F Selection Field InlineFragment SelectionSet)
      → sent_selection schema subscribes (roll-Selection s)
      ≡ selection_sent (map-Selection Selection Field InlineFragment SelectionSet SelectionSent FieldSent (SentIn InlineFragment) SetSent (sent_selection schema subscribes) (sent_field schema subscribes) (sent_inline schema subscribes) sent s)
  selection_roll s = fold-roll-Selection SelectionSent FieldSent (SentIn InlineFragment) SetSent selection_sent (field_sent schema) (inline_sent schema) (set_sent schema subscribes) s

  -- ---- fields

  abbrev FieldParts : Type 0
  FieldParts = Name × (Option Name × (List Argument × (List Directive × Option SelectionSet)))

  abbrev below : Parent → Name → Option Name → SelectionSet → SelectionSet
  below parent name renamed set = sent set OfField (field_parent schema parent (name_in_field name renamed).text)

  abbrev sent_parts : Parent → FieldParts → FieldParts
  sent_parts parent p = (p.0, (p.1.0, (p.1.1.0, (p.1.1.1.0, option_map (below parent p.0 p.1.0) p.1.1.1.1))))

  field_parts_sent : (parent : Parent) (p : FieldParts) → field_of (sent_parts parent p) ≡ field_at parent (field_of p)
  field_parts_sent parent (name, (None, (arguments, (directives, None)))) =
      sym (ap (λ (f : FieldSent). f.sent parent) (field_roll (record { alias = None; name = name; arguments = arguments; directives = directives; selection_set = None })))
  field_parts_sent parent (name, (None, (arguments, (directives, Some set)))) =
      sym (ap (λ (f : FieldSent). f.sent parent) (field_roll (record { alias = None; name = name; arguments = arguments; directives = directives; selection_set = Some set })))
  field_parts_sent parent (name, (Some renamed, (arguments, (directives, None)))) =
      sym (ap (λ (f : FieldSent). f.sent parent) (field_roll (record { alias = Some name; name = renamed; arguments = arguments; directives = directives; selection_set = None })))
  field_parts_sent parent (name, (Some renamed, (arguments, (directives, Some set)))) =
      sym (ap (λ (f : FieldSent). f.sent parent) (field_roll (record { alias = Some name; name = renamed; arguments = arguments; directives = directives; selection_set = Some set })))

  -- the sets that stand one level deeper grow
  abbrev SetsGrow : Rule SelectionSet → Type 0
  SetsGrow R = (owner : Owner) (parent : Parent) (set : SelectionSet) → Grows R set (sent set owner parent)

  grows_field : (R : Rule SelectionSet) → SetsGrow R → (parent : Parent) (field : Field) → Grows (FieldRule R) field (field_at parent field)
  grows_field R l parent =
      grows_made field_of (sent_parts parent) (field_at parent) (field_parts_sent parent)
      (λ p. grows_seq same (grows_seq same (grows_seq same (grows_seq same (grows_opt (below parent p.0 p.1.0) (λ set. l OfField (field_parent schema parent (name_in_field p.0 p.1.0).text) set) p.1.1.1.1)))))

  -- ---- what is spread

  abbrev InlineParts : Type 0
  InlineParts = Option Name × (List Directive × SelectionSet)

  abbrev sent_inline_parts : Parent → InlineParts → InlineParts
  sent_inline_parts parent p = (p.0, (p.1.0, sent p.1.1 OfFragment (inline_parent schema parent p.0)))

  spread_sent : (parent : Parent) (place : Place) (p : Name × List Directive) → spread_of place p ≡ selection_at parent (spread_of place p)
  spread_sent parent place p = sym (ap (λ (s : SelectionSent). s.sent parent) (selection_roll (Selection-F.Spread (record { place = place; name = p.0; directives = p.1 }))))

  inline_parts_sent : (parent : Parent) (place : Place) (p : InlineParts) → inline_of place (sent_inline_parts parent p) ≡ selection_at parent (inline_of place p)
  inline_parts_sent parent place p =
      let f : InlineFragment-F Selection Field InlineFragment SelectionSet = record { place = place; type_condition = p.0; directives = p.1.0; selection_set = p.1.1 } in
      sym (ap (λ (s : SelectionSent). s.sent parent) (selection_roll (Selection-F.Inline (roll-InlineFragment f)))
      ∙ ap (λ (i : SentIn InlineFragment). roll-Selection (Selection-F.Inline (i parent)))
      (fold-roll-InlineFragment SelectionSent FieldSent (SentIn InlineFragment) SetSent selection_sent (field_sent schema) (inline_sent schema) (set_sent schema subscribes) f))

  grows_spread : (parent : Parent) (place : Place) (s : Selection) → Grows (SpreadRule place) s (selection_at parent s)
  grows_spread parent place = grows_made (spread_of place) (λ p. p) (selection_at parent) (spread_sent parent place) (λ p. same)

  grows_inline : (R : Rule SelectionSet) → SetsGrow R → (parent : Parent) (place : Place) (s : Selection) → Grows (InlineRule R place) s (selection_at parent s)
  grows_inline R l parent place =
      grows_made (inline_of place) (sent_inline_parts parent) (selection_at parent) (inline_parts_sent parent place)
      (λ p. grows_seq same (grows_seq same (l OfFragment (inline_parent schema parent p.0) p.1.1)))

  grows_dots : (R : Rule SelectionSet) → SetsGrow R → (parent : Parent) (place : Place) (s : Selection)
      → Grows (Behind (mark kind.Spread) (Either (SpreadRule place) (InlineRule R place))) s (selection_at parent s)
  grows_dots R l parent place s = grows_behind (mark kind.Spread) (grows_either (grows_spread parent place s) (grows_inline R l parent place s))

  grows_spreading : (R : Rule SelectionSet) → SetsGrow R → (parent : Parent) (s : Selection) → Grows (SpreadingRule R) s (selection_at parent s)
  grows_spreading R l parent s = grows_here (λ place. grows_dots R l parent place s)

  -- ---- selection sets

  grows_selection : (R : Rule SelectionSet) → SetsGrow R → (parent : Parent) (s : Selection) → Grows (SelectionRule R) s (selection_at parent s)
  grows_selection R l parent s =
      grows_either (grows_spreading R l parent s)
      (grows_made field_selection (field_at parent) (selection_at parent)
      (λ field. sym (ap (λ (s : SelectionSent). s.sent parent) (selection_roll (Selection-F.Field field)))) (grows_field R l parent) s)

  abbrev selections_at : Parent → List Selection → List Selection
  selections_at parent all = map (λ (s : SelectionSent). s.sent parent) (map (sent_selection schema subscribes) all)

  grows_selections : (R : Rule SelectionSet) → SetsGrow R → (parent : Parent) (all : List Selection) → Grows (Many (SelectionRule R)) all (selections_at parent all)
  grows_selections R l parent [] = grows_nil
  grows_selections R l parent (s ∷ all) = grows_cons (grows_selection R l parent s) (grows_selections R l parent all)

  grows_more : (R : Rule SelectionSet) → SetsGrow R → (parent : Parent) (all : List Selection) → Grows (More (SelectionRule R)) all (selections_at parent all)
  grows_more R l parent =
      grows_made cons (λ p. (selection_at parent p.0, selections_at parent p.1)) (selections_at parent) (λ p. refl)
      (λ p. grows_seq (grows_selection R l parent p.0) (grows_selections R l parent p.1))

  abbrev fronted : Owner → Parent → List Selection → Bool
  fronted owner parent all = is_fronted schema subscribes owner parent (list_any (λ (s : SelectionSent). s.plain) (map (sent_selection schema subscribes) all))

  abbrev sent_all : Owner → Parent → Place → List Selection → List Selection
  sent_all owner parent place all = with_front (fronted owner parent all) place (selections_at parent all)

  set_roll : (owner : Owner) (parent : Parent) (place : Place) (all : List Selection) → set_of place (sent_all owner parent place all) ≡ sent (set_of place all) owner parent
  set_roll owner parent place all =
      sym (ap (λ (s : SetSent). s owner parent)
      (fold-roll-SelectionSet SelectionSent FieldSent (SentIn InlineFragment) SetSent selection_sent (field_sent schema) (inline_sent schema) (set_sent schema subscribes) (record { place = place; selections = all })))

  grows_braced : (R : Rule SelectionSet) → SetsGrow R → (owner : Owner) (parent : Parent) (place : Place) (set : SelectionSet)
      → Grows (Made (set_of place) (Between (mark kind.BraceOpen) (mark kind.BraceClose) (More (SelectionRule R)))) set (sent set owner parent)
  grows_braced R l owner parent place =
      grows_made (set_of place) (sent_all owner parent place) (λ (s : SelectionSet). sent s owner parent) (set_roll owner parent place)
      (λ all. grows_between (mark kind.BraceOpen) (mark kind.BraceClose) (swells_front (fronted owner parent all) place (grows_more R l parent all)))

  grows_set_over : (R : Rule SelectionSet) → SetsGrow R → SetsGrow (SetOver R)
  grows_set_over R l owner parent set = grows_here (λ place. grows_braced R l owner parent place set)

  grows_depth : (n : ℕ) → SetsGrow (Depth SetOver n)
  grows_depth zero owner parent set = record { law = λ front r h. absurd r }
  grows_depth (suc n) owner parent set = record { law = (grows_set_over (Depth SetOver n) (grows_depth n) owner parent set).law }

  pub grows_set : SetsGrow SetRule
  grows_set owner parent set = record {
    law = λ front r h.
        let x = (grows_depth r.0 owner parent set).law front r.1 h in
        record { tokens = x.tokens; derives = (r.0, x.derives); printable = x.printable; begins = x.begins };
  }
