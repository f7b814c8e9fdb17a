-- What the rules judge: each part of a document with what the schema says of where it stands (GraphQL October 2021, 5.3 to 5.7).
use Rattle.std.specs.Prelude.{ℕ, Bool, List, [], ◌∷◌, ◌++◌, Option, Some, None, is_some, map}
use Rattle.std.specs.List.{flat_map, list_any}
use Rattle.std.specs.Option.{option_and_then}
use Rattle.gql_model.specs.declared.name.Name.{Name}
use Rattle.gql_model.specs.declared.literal.Literal.{Literal}
use Rattle.gql_model.specs.declared.type_ref.TypeRef.{TypeRef}
use Rattle.gql_model.specs.declared.selection.Argument.{Argument}
use Rattle.gql_model.specs.declared.selection.Directive.{Directive}
use Rattle.gql_model.specs.declared.selection.Spread.{Spread}
use Rattle.gql_model.specs.declared.selection.Field.{Field}
use Rattle.gql_model.specs.declared.selection.InlineFragment.{InlineFragment}
use Rattle.gql_model.specs.declared.selection.Selection.{Selection}
use Rattle.gql_model.specs.declared.selection.SelectionSet.{SelectionSet}
use Rattle.gql_model.specs.declared.selection.Selection.TheOpen.{SelectionSet-F, Selection-F, Field-F, InlineFragment-F}
use Rattle.gql_model.specs.declared.selection.Selection.TheFolds.{fold-SelectionSet, fold-Selection, fold-Field, fold-InlineFragment}
use Rattle.gql_model.specs.declared.executable.VariableDefinition.{VariableDefinition}
use Rattle.gql_model.specs.declared.executable.Operation.{Operation}
use Rattle.gql_model.specs.declared.executable.Fragment.{Fragment}
use Rattle.gql_model.specs.declared.document.Document.{Document}
use Rattle.gql_model.specs.declared.document.Definition.{Definition}
use Rattle.gql_model.specs.declared.document.Definition.TheVariants as definition
use Rattle.schema_model.specs.declared.schema.Schema.{Schema}
use Rattle.schema_model.specs.declared.schema.InputValue.{InputValue}
use Rattle.check_model.specs.declared.location.Location.{Location}
use Rattle.check_model.specs.declared.location.Location.TheVariants as location
use Rattle.check_model.specs.Executables.{fragment_named}
use Rattle.check_model.specs.FieldTypes.{Parent, composite_named, root_parent, inline_parent, field_parent, field_arguments}
use Rattle.check_model.specs.Directives.{operation_location, directive_arguments}

-- a part of a document that a rule judges, with what the schema says of where it stands
pub data Site : Type 0 where
  -- a type condition
  Condition : List ℕ → Site
  -- a field of this name, with a selection set or without, in a set of this type
  Selected : Parent → List ℕ → Bool → Site
  -- a fragment of the second type, spread in a set of the first
  Spreading : Parent → Parent → Site
  -- the directives of one part of the document
  Directed : Location → List Directive → Site
  -- the arguments that are defined for a field or a directive, and those that it is given
  Given : List (List ℕ × InputValue) → List Argument → Site
  -- the default of a variable of this type
  Default : TypeRef → Literal → Site

-- such parts, one after another
abbrev pub Sites : Type 0
Sites = List Site

-- ---- directives

-- the arguments of a directive, with those that are defined for a directive of its name
abbrev pub directive_site : Schema → Directive → Site
directive_site schema directive = Site.Given (directive_arguments schema directive.name.text) directive.arguments

-- the directives of one part, and the arguments of each
abbrev pub directive_sites : Schema → Location → List Directive → Sites
directive_sites schema place directives = Site.Directed place directives ∷ map (directive_site schema) directives

-- ---- selections, in a set of a type

-- what stands in a part of a selection set, once the type of that set is given
abbrev pub SitesIn : Type 0
SitesIn = Parent → Sites

-- the type of the fragment that a spread spreads
abbrev pub spread_parent : Schema → Document → List ℕ → Parent
spread_parent schema document name = option_and_then (λ f. composite_named schema f.type_condition.text) (fragment_named document name)

-- a spread in a set of a type, and its directives; what stands in its fragment is judged there, not here
abbrev pub spread_sites : Schema → Document → Spread → SitesIn
spread_sites schema document spread parent =
    Site.Spreading parent (spread_parent schema document spread.name.text) ∷ directive_sites schema location.FragmentSpread spread.directives

-- what stands in a selection; a spread isn't followed
abbrev pub selection_sites : Schema → Document → Selection-F SitesIn SitesIn SitesIn SitesIn → SitesIn
selection_sites schema document (Selection-F.Field field) parent = field parent
selection_sites schema document (Selection-F.Spread spread) parent = spread_sites schema document spread parent
selection_sites schema document (Selection-F.Inline fragment) parent = fragment parent

-- what stands in the set of a field, if it has one
abbrev pub below : Option SitesIn → Parent → Sites
below None parent = []
below (Some sites) parent = sites parent

-- a field without what is in its set: its selection, its arguments and its directives
abbrev pub field_head_sites : Schema → List ℕ → List Argument → List Directive → Bool → SitesIn
field_head_sites schema name arguments directives has_set parent =
    Site.Selected parent name has_set ∷ Site.Given (field_arguments schema parent name) arguments ∷ directive_sites schema location.Field directives

-- a field, and then what stands in its set, if it has one
abbrev pub field_sites : Schema → Field-F SitesIn SitesIn SitesIn SitesIn → SitesIn
field_sites schema field parent =
    field_head_sites schema field.name.text field.arguments field.directives (is_some field.selection_set) parent
    ++ below field.selection_set (field_parent schema parent field.name.text)

-- the condition of an inline fragment, if it has one
abbrev pub condition_sites : Schema → Parent → Option Name → Sites
condition_sites schema parent None = []
condition_sites schema parent (Some condition) = Site.Condition condition.text ∷ Site.Spreading parent (composite_named schema condition.text) ∷ []

-- an inline fragment without what is in its set: its condition, if it has one, and its directives
abbrev pub inline_head_sites : Schema → Option Name → List Directive → SitesIn
inline_head_sites schema condition directives parent = condition_sites schema parent condition ++ directive_sites schema location.InlineFragment directives

-- an inline fragment, and then what stands in its set, which has the type of its condition, or else that of the set around it
abbrev pub inline_sites : Schema → InlineFragment-F SitesIn SitesIn SitesIn SitesIn → SitesIn
inline_sites schema fragment parent =
    inline_head_sites schema fragment.type_condition fragment.directives parent
    ++ fragment.selection_set (inline_parent schema parent fragment.type_condition)

-- what stands in a selection set of a type, selection by selection
abbrev pub set_sites : SelectionSet-F SitesIn SitesIn SitesIn SitesIn → SitesIn
set_sites set parent = flat_map (λ sites. sites parent) set.selections

-- what stands in a selection set of a type, at every depth
abbrev pub sites_of_set : Schema → Document → SelectionSet → SitesIn
sites_of_set schema document =
    fold-SelectionSet SitesIn SitesIn SitesIn SitesIn (selection_sites schema document) (field_sites schema) (inline_sites schema) set_sites

-- what stands in a selection in a set of a type, at every depth
abbrev pub sites_of_selection : Schema → Document → Selection → SitesIn
sites_of_selection schema document =
    fold-Selection SitesIn SitesIn SitesIn SitesIn (selection_sites schema document) (field_sites schema) (inline_sites schema) set_sites

-- what stands in a field in a set of a type, at every depth
abbrev pub sites_of_field : Schema → Document → Field → SitesIn
sites_of_field schema document =
    fold-Field SitesIn SitesIn SitesIn SitesIn (selection_sites schema document) (field_sites schema) (inline_sites schema) set_sites

-- what stands in an inline fragment in a set of a type, at every depth
abbrev pub sites_of_inline : Schema → Document → InlineFragment → SitesIn
sites_of_inline schema document =
    fold-InlineFragment SitesIn SitesIn SitesIn SitesIn (selection_sites schema document) (field_sites schema) (inline_sites schema) set_sites

-- ---- definitions

-- the default of a variable of this type, if it has one
abbrev pub default_sites : TypeRef → Option Literal → Sites
default_sites type None = []
default_sites type (Some literal) = Site.Default type literal ∷ []

-- what stands in the definition of a variable: its default and its directives
abbrev pub variable_sites : Schema → VariableDefinition → Sites
variable_sites schema variable =
    default_sites variable.variable_type.type_ref variable.default ++ directive_sites schema location.VariableDefinition variable.directives

-- an operation without its selection set: first its directives, then its variables
abbrev pub operation_head_sites : Schema → Operation → Sites
operation_head_sites schema operation =
    directive_sites schema (operation_location operation.kind) operation.directives ++ flat_map (variable_sites schema) operation.variables

-- what stands in an operation
abbrev pub operation_sites : Schema → Document → Operation → Sites
operation_sites schema document operation =
    operation_head_sites schema operation ++ sites_of_set schema document operation.selection_set (root_parent schema operation.kind)

-- a fragment without its selection set: its type condition and its directives
abbrev pub fragment_head_sites : Schema → Fragment → Sites
fragment_head_sites schema fragment =
    Site.Condition fragment.type_condition.text ∷ directive_sites schema location.FragmentDefinition fragment.directives

-- what stands in a fragment
abbrev pub fragment_sites : Schema → Document → Fragment → Sites
fragment_sites schema document fragment =
    fragment_head_sites schema fragment
    ++ sites_of_set schema document fragment.selection_set (composite_named schema fragment.type_condition.text)

-- what stands in a definition; in one of the type system nothing is judged
abbrev pub definition_sites : Schema → Document → Definition → Sites
definition_sites schema document (definition.Operation d) = operation_sites schema document d
definition_sites schema document (definition.Fragment d) = fragment_sites schema document d
definition_sites schema document (definition.TypeSystem d) = []

-- all that stands in a document, definition by definition
abbrev pub sites : Schema → Document → Sites
sites schema document = flat_map (definition_sites schema document) document.definitions

-- whether something in the document is so
abbrev pub some_site : (Site → Bool) → Schema → Document → Bool
some_site test schema document = list_any test (sites schema document)
