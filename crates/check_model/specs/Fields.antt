-- The fields of an operation at every depth, with all spreads and inline fragments followed, whatever their types
-- (after GraphQL October 2021, 5.3.2, FieldsInSetCanMerge).
use Rattle.std.specs.Prelude.{ℕ, List, [], ◌∷◌, Option, Some, None, map}
use Rattle.std.specs.List.{flat_map}
use Rattle.std.specs.Option.{option_map_or}
use Rattle.gql_model.specs.declared.name.Name.{Name}
use Rattle.gql_model.specs.declared.type_ref.TypeRef.{TypeRef}
use Rattle.gql_model.specs.declared.selection.Argument.{Argument}
use Rattle.gql_model.specs.declared.selection.SelectionSet.{SelectionSet}
use Rattle.gql_model.specs.declared.selection.Selection.TheOpen.{SelectionSet-F, Selection-F, Field-F, InlineFragment-F}
use Rattle.gql_model.specs.declared.selection.Selection.TheFolds.{fold-SelectionSet}
use Rattle.gql_model.specs.declared.executable.Operation.{Operation}
use Rattle.gql_model.specs.declared.executable.Fragment.{Fragment}
use Rattle.gql_model.specs.declared.document.Document.{Document}
use Rattle.schema_model.specs.declared.schema.Schema.{Schema}
use Rattle.check_model.specs.FieldTypes.{Parent, composite_named, root_parent, inline_parent, field_parent, selected_type}
use Rattle.check_model.specs.Followed.{Follow, followed}

-- A field of an operation: the response keys from the operation's own set down to it, the types of the sets
-- that they stand in, and what is selected at the end. A fragment's set has the type of its condition.
pub record Placed : Type 0 where
  pub path : List (List ℕ)
  pub parents : List Parent
  pub name : List ℕ
  pub arguments : List Argument
  pub type : Option TypeRef

-- fields with their paths, in document order, those of a fragment where it is spread
abbrev pub PlacedFields : Type 0
PlacedFields = List Placed

-- the fields of a set of a type
abbrev pub PlacedIn : Type 0
PlacedIn = Parent → PlacedFields

-- the key of a field in its result: the alias, or else the name (GraphQL October 2021, 2.7)
abbrev pub response_key : Option Name → List ℕ → List ℕ
response_key alias name = option_map_or (λ a. a.text) alias name

-- a field below one of this key in a set of this type
abbrev pub beneath : List ℕ → Parent → Placed → Placed
beneath key parent field = record field { path = key ∷ field.path; parents = parent ∷ field.parents }

-- a field by itself, in a set of this type: its path is its own response key alone
abbrev pub own_field : Schema → List ℕ → List ℕ → List Argument → Parent → Placed
own_field schema key name arguments parent = record {
  path = key ∷ [];
  parents = parent ∷ [];
  name = name;
  arguments = arguments;
  type = selected_type schema parent name;
}

-- the fields of a field's selection set, which has this type; none where the field has no set
abbrev pub fields_below : Option PlacedIn → Parent → PlacedFields
fields_below None parent = []
fields_below (Some fields) parent = fields parent

-- a field in a set of a type, and after it the fields of its own set, each beneath it
abbrev pub field_fields : Schema → Field-F PlacedIn PlacedIn PlacedIn PlacedIn → PlacedIn
field_fields schema field parent =
    own_field schema (response_key field.alias field.name.text) field.name.text field.arguments parent
    ∷ map (beneath (response_key field.alias field.name.text) parent) (fields_below field.selection_set (field_parent schema parent field.name.text))

-- the fields of a selection in a set of a type; a spread gives its fragment's, whatever the type of the set around it
abbrev pub selection_fields : Follow PlacedFields → Selection-F PlacedIn PlacedIn PlacedIn PlacedIn → PlacedIn
selection_fields follow (Selection-F.Field field) parent = field parent
selection_fields follow (Selection-F.Spread spread) parent = follow spread.name.text
selection_fields follow (Selection-F.Inline fragment) parent = fragment parent

-- the fields of an inline fragment: its set has the type of its condition, or without one that of the set around it
abbrev pub inline_fields : Schema → InlineFragment-F PlacedIn PlacedIn PlacedIn PlacedIn → PlacedIn
inline_fields schema fragment parent = fragment.selection_set (inline_parent schema parent fragment.type_condition)

-- the fields of all selections of a set of a type, in their order
abbrev pub set_fields : SelectionSet-F PlacedIn PlacedIn PlacedIn PlacedIn → PlacedIn
set_fields set parent = flat_map (λ fields. fields parent) set.selections

-- the fields of a selection set of a type at every depth, where it is given what each spread gives
abbrev pub fields_of_set : Schema → Follow PlacedFields → SelectionSet → PlacedIn
fields_of_set schema follow =
    fold-SelectionSet PlacedIn PlacedIn PlacedIn PlacedIn (selection_fields follow) (field_fields schema) (inline_fields schema) set_fields

-- the fields of a fragment at every depth, from its set, which has the type of its condition
abbrev pub fragment_fields : Schema → Follow PlacedFields → Fragment → PlacedFields
fragment_fields schema follow fragment = fields_of_set schema follow fragment.selection_set (composite_named schema fragment.type_condition.text)

-- the fields of an operation at every depth
abbrev pub operation_fields : Schema → Document → Operation → PlacedFields
operation_fields schema document operation =
    fields_of_set schema (followed [] (fragment_fields schema) document) operation.selection_set (root_parent schema operation.kind)
