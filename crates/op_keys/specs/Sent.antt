-- The document that is sent for a client's document: `__typename` is put at the front of selection sets, by the rule of
-- `execution_model` (after urql's Graphcache).
use Rattle.std.specs.Prelude.{Bool, false, List, [], ◌∷◌, map, None, cond, codes}
use Rattle.std.specs.Option.{option_map}
use Rattle.std.specs.List.{list_any}
use Rattle.gql_tokens.specs.declared.token.Place.{Place}
use Rattle.gql_model.specs.declared.name.Name.{Name}
use Rattle.gql_model.specs.declared.selection.SelectionSet.{SelectionSet, roll-SelectionSet}
use Rattle.gql_model.specs.declared.selection.Selection.{Selection, roll-Selection}
use Rattle.gql_model.specs.declared.selection.Field.{Field, roll-Field}
use Rattle.gql_model.specs.declared.selection.InlineFragment.{InlineFragment, roll-InlineFragment}
use Rattle.gql_model.specs.declared.selection.Selection.TheOpen.{SelectionSet-F, Selection-F, Field-F, InlineFragment-F}
use Rattle.gql_model.specs.declared.selection.Selection.TheFolds.{fold-SelectionSet, fold-Selection, fold-Field, fold-InlineFragment}
use Rattle.gql_model.specs.declared.executable.Operation.{Operation}
use Rattle.gql_model.specs.declared.executable.Fragment.{Fragment}
use Rattle.gql_model.specs.declared.document.Document.{Document}
use Rattle.gql_model.specs.declared.document.Definition.{Definition}
use Rattle.gql_model.specs.declared.document.Definition.TheVariants as definition
use Rattle.schema_model.specs.declared.schema.Schema.{Schema}
use Rattle.check_model.specs.FieldTypes.{Parent, composite_named, root_parent, inline_parent, field_parent}
use Rattle.execution_model.specs.Fronts.{Owner, OfOperation, OfField, OfFragment, is_plain_typename, is_fronted, has_subscription}

-- a part as it is sent, where it stands in a set of a type
abbrev pub SentIn : Type 0 → Type 0
SentIn X = Parent → X

-- a selection set as it is sent, by what it belongs to and its type
abbrev pub SetSent : Type 0
SetSent = Owner → SentIn SelectionSet

-- a selection as it is sent, and whether it is a plain `__typename`
pub record SelectionSent : Type 0 where
  pub plain : Bool
  pub sent : Parent → Selection

-- a field as it is sent, and whether it is a plain `__typename`
pub record FieldSent : Type 0 where
  pub plain : Bool
  pub sent : Parent → Field

-- the name of the field that is put in; it stands at the set's own place
abbrev pub typename_name : Place → Name
typename_name place = record { place = place; text = codes "__typename" }

-- that field at a place, without alias, arguments, directives and set
abbrev pub typename_field : Place → Field
typename_field place = roll-Field (record { alias = None; name = typename_name place; arguments = []; directives = []; selection_set = None })

-- that field as a selection
abbrev pub typename_selection : Place → Selection
typename_selection place = roll-Selection (Selection-F.Field (typename_field place))

-- a field as it is sent: its set, where it has one, is sent as a field's own, of the type of the field
abbrev pub field_sent : Schema → Field-F SelectionSent FieldSent (SentIn InlineFragment) SetSent → FieldSent
field_sent schema field = record {
  plain = is_plain_typename field.alias field.name.text field.directives;
  sent = λ parent. roll-Field (record {
    alias = field.alias;
    name = field.name;
    arguments = field.arguments;
    directives = field.directives;
    selection_set = option_map (λ set. set OfField (field_parent schema parent field.name.text)) field.selection_set;
  });
}

-- an inline fragment as it is sent: its set is of the condition's type, or of the type around it without a condition
abbrev pub inline_sent : Schema → InlineFragment-F SelectionSent FieldSent (SentIn InlineFragment) SetSent → SentIn InlineFragment
inline_sent schema fragment parent = roll-InlineFragment (record {
  place = fragment.place;
  type_condition = fragment.type_condition;
  directives = fragment.directives;
  selection_set = fragment.selection_set OfFragment (inline_parent schema parent fragment.type_condition);
})

-- a selection of each form as it is sent; a spread stays as it is
abbrev pub selection_sent : Selection-F SelectionSent FieldSent (SentIn InlineFragment) SetSent → SelectionSent
selection_sent (Selection-F.Field field) = record { plain = field.plain; sent = λ parent. roll-Selection (Selection-F.Field (field.sent parent)) }
selection_sent (Selection-F.Spread spread) = record { plain = false; sent = λ parent. roll-Selection (Selection-F.Spread spread) }
selection_sent (Selection-F.Inline fragment) = record { plain = false; sent = λ parent. roll-Selection (Selection-F.Inline (fragment parent)) }

-- selections with `__typename` at their front, or as they are
abbrev pub with_front : Bool → Place → List Selection → List Selection
with_front fronted place selections = cond fronted (typename_selection place ∷ selections) selections

-- a set as it is sent: its selections as they are sent, with `__typename` before them where the rule has it
abbrev pub set_sent : Schema → Bool → SelectionSet-F SelectionSent FieldSent (SentIn InlineFragment) SetSent → SetSent
set_sent schema subscribes set owner parent = roll-SelectionSet (record {
  place = set.place;
  selections = with_front (is_fronted schema subscribes owner parent (list_any (λ s. s.plain) set.selections)) set.place (map (λ s. s.sent parent) set.selections);
})

-- a whole selection set as it is sent, in a document that has a subscription or not
abbrev pub sent_set : Schema → Bool → SelectionSet → SetSent
sent_set schema subscribes =
    fold-SelectionSet SelectionSent FieldSent (SentIn InlineFragment) SetSent selection_sent (field_sent schema) (inline_sent schema) (set_sent schema subscribes)

-- the same of a selection, and whether it is a plain `__typename`
abbrev pub sent_selection : Schema → Bool → Selection → SelectionSent
sent_selection schema subscribes =
    fold-Selection SelectionSent FieldSent (SentIn InlineFragment) SetSent selection_sent (field_sent schema) (inline_sent schema) (set_sent schema subscribes)

-- the same of a field, and whether it is a plain `__typename`
abbrev pub sent_field : Schema → Bool → Field → FieldSent
sent_field schema subscribes =
    fold-Field SelectionSent FieldSent (SentIn InlineFragment) SetSent selection_sent (field_sent schema) (inline_sent schema) (set_sent schema subscribes)

-- the same of an inline fragment
abbrev pub sent_inline : Schema → Bool → InlineFragment → SentIn InlineFragment
sent_inline schema subscribes =
    fold-InlineFragment SelectionSent FieldSent (SentIn InlineFragment) SetSent selection_sent (field_sent schema) (inline_sent schema) (set_sent schema subscribes)

-- an operation as it is sent: its own set is of the root type of its kind
abbrev pub sent_operation : Schema → Bool → Operation → Operation
sent_operation schema subscribes d = record d { selection_set = sent_set schema subscribes d.selection_set OfOperation (root_parent schema d.kind) }

-- a fragment as it is sent: its set is of the type of its condition
abbrev pub sent_fragment : Schema → Bool → Fragment → Fragment
sent_fragment schema subscribes d = record d { selection_set = sent_set schema subscribes d.selection_set OfFragment (composite_named schema d.type_condition.text) }

-- a definition as it is sent; one of the type system stays as it is
abbrev pub sent_definition : Schema → Bool → Definition → Definition
sent_definition schema subscribes (definition.Operation d) = definition.Operation (sent_operation schema subscribes d)
sent_definition schema subscribes (definition.Fragment d) = definition.Fragment (sent_fragment schema subscribes d)
sent_definition schema subscribes (definition.TypeSystem d) = definition.TypeSystem d

-- the document that is sent; where it has a subscription, chosen or not, that keeps its one root field
abbrev pub with_typename : Schema → Document → Document
with_typename schema document = record { definitions = map (sent_definition schema (has_subscription document)) document.definitions }
