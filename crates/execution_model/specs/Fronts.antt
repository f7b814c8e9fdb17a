-- Where `__typename` is put at the front of a selection set when an operation is sent (after urql's Graphcache, which asks each object for its type).
use Rattle.std.specs.Prelude.{ℕ, Bool, true, false, not, ◌&&◌, List, [], ◌∷◌, Option, Some, None, is_none}
use Rattle.std.specs.List.{flat_map, list_any}
use Rattle.std.specs.Option.{option_map_or}
use Rattle.gql_model.specs.Documents.{is_none_of}
use Rattle.gql_model.specs.declared.name.Name.{Name}
use Rattle.gql_model.specs.declared.selection.Directive.{Directive}
use Rattle.gql_model.specs.declared.selection.SelectionSet.{SelectionSet}
use Rattle.gql_model.specs.declared.selection.Selection.{Selection}
use Rattle.gql_model.specs.declared.selection.Selection.TheOpen.{SelectionSet-F, Selection-F, Field-F, InlineFragment-F}
use Rattle.gql_model.specs.declared.selection.Selection.TheFolds.{fold-SelectionSet, fold-Selection}
use Rattle.gql_model.specs.declared.executable.OperationKind.TheVariants as kind
use Rattle.gql_model.specs.declared.document.Document.{Document}
use Rattle.gql_model.specs.declared.document.Definition.{Definition}
use Rattle.gql_model.specs.declared.document.Definition.TheVariants as definition
use Rattle.schema_model.specs.declared.schema.Schema.{Schema}
use Rattle.schema_model.specs.Schemas.{root_of}
use Rattle.schema_model.specs.Possible.{is_possible_of}
use Rattle.check_model.specs.Executables.{some_operation}
use Rattle.check_model.specs.FieldTypes.{Parent, is_typename, composite_named, root_parent, inline_parent, field_parent}
use Rattle.check_model.specs.RootFields.{is_subscription}

-- what a selection set belongs to
pub data Owner : Type 0 where
  OfOperation : Owner
  OfField : Owner
  OfFragment : Owner

-- ---- the rule

-- the field `__typename`, without alias and without directives
abbrev pub is_plain_typename : Option Name → List ℕ → List Directive → Bool
is_plain_typename alias name directives = is_none alias && is_typename name && is_none_of directives

-- whether the root of subscriptions is one of the object types that a set's type stands for
abbrev pub takes_subscription_root : Schema → Parent → Bool
takes_subscription_root schema parent =
    option_map_or (λ type. option_map_or (λ root. is_possible_of schema root type) (root_of schema kind.Subscription) false) parent false

-- whether a set of this owner may have one field more: an operation's own set never does, each field's own set does,
-- and a fragment's does unless a subscription, which has one root field, could come to have two by it
abbrev pub takes_front : Schema → Bool → Owner → Parent → Bool
takes_front schema subscribes OfOperation parent = false
takes_front schema subscribes OfField parent = true
takes_front schema subscribes OfFragment parent = not (subscribes && takes_subscription_root schema parent)

-- whether `__typename` is put at the front of a set, of which is said whether it selects the field plainly itself
abbrev pub is_fronted : Schema → Bool → Owner → Parent → Bool → Bool
is_fronted schema subscribes owner parent selects = not selects && takes_front schema subscribes owner parent

-- whether a document has a subscription, chosen or not
abbrev pub has_subscription : Document → Bool
has_subscription document = some_operation (λ o. is_subscription o.kind) document

-- ---- the sets of a document, in the order of their numbers

-- a flag for each set: whether it gets the field
abbrev pub Fronts : Type 0
Fronts = List Bool

-- the sets in a set with this owner, of this type
abbrev pub FrontsIn : Type 0
FrontsIn = Owner → Parent → Fronts

-- a selection: whether it is a plain `__typename`, and the sets in it where it stands in a set of a type
pub record Fronting : Type 0 where
  pub plain : Bool
  pub inside : Parent → Fronts

-- the flags of the own set of a field, which is of this type, and of the sets in it; none where the field has no set
abbrev pub fronts_below : Option FrontsIn → Parent → Fronts
fronts_below None parent = []
fronts_below (Some fronts) parent = fronts OfField parent

-- a field: whether it is a plain `__typename`, and the flags of its set, which is of the field's type
abbrev pub field_fronts : Schema → Field-F Fronting Fronting FrontsIn FrontsIn → Fronting
field_fronts schema field = record {
  plain = is_plain_typename field.alias field.name.text field.directives;
  inside = λ parent. fronts_below field.selection_set (field_parent schema parent field.name.text);
}

-- the flags of the set of an inline fragment, which is of the condition's type, or of the type around it without one
abbrev pub inline_fronts : Schema → InlineFragment-F Fronting Fronting FrontsIn FrontsIn → FrontsIn
inline_fronts schema fragment owner parent = fragment.selection_set owner (inline_parent schema parent fragment.type_condition)

-- a selection of each form: a spread has no set here, and the set of an inline fragment belongs to a fragment
abbrev pub selection_fronts : Selection-F Fronting Fronting FrontsIn FrontsIn → Fronting
selection_fronts (Selection-F.Field field) = field
selection_fronts (Selection-F.Spread spread) = record { plain = false; inside = λ parent. [] }
selection_fronts (Selection-F.Inline fragment) = record { plain = false; inside = fragment OfFragment }

-- whether one of the selections is a plain `__typename`
abbrev pub selects_plainly : List Fronting → Bool
selects_plainly selections = list_any (λ s. s.plain) selections

-- a set stands before those that are in it
abbrev pub set_fronts : Schema → Bool → SelectionSet-F Fronting Fronting FrontsIn FrontsIn → FrontsIn
set_fronts schema subscribes set owner parent =
    is_fronted schema subscribes owner parent (selects_plainly set.selections) ∷ flat_map (λ s. s.inside parent) set.selections

-- the flags of a set and of all sets in it, in a document that has a subscription or not
abbrev pub fronts_in_set : Schema → Bool → SelectionSet → FrontsIn
fronts_in_set schema subscribes =
    fold-SelectionSet Fronting Fronting FrontsIn FrontsIn selection_fronts (field_fronts schema) (inline_fronts schema) (set_fronts schema subscribes)

-- the same of a selection: whether it is a plain `__typename`, and the flags of the sets in it
abbrev pub fronts_in_selection : Schema → Bool → Selection → Fronting
fronts_in_selection schema subscribes =
    fold-Selection Fronting Fronting FrontsIn FrontsIn selection_fronts (field_fronts schema) (inline_fronts schema) (set_fronts schema subscribes)

-- the flags of all sets of an operation or a fragment, the own set first; a type system definition has none
abbrev pub definition_fronts : Schema → Bool → Definition → Fronts
definition_fronts schema subscribes (definition.Operation d) = fronts_in_set schema subscribes d.selection_set OfOperation (root_parent schema d.kind)
definition_fronts schema subscribes (definition.Fragment d) = fronts_in_set schema subscribes d.selection_set OfFragment (composite_named schema d.type_condition.text)
definition_fronts schema subscribes (definition.TypeSystem d) = []

-- for each selection set of a document, in the order of their numbers, whether `__typename` is put at its front
abbrev pub fronts_of : Schema → Document → Fronts
fronts_of schema document = flat_map (definition_fronts schema (has_subscription document)) document.definitions
