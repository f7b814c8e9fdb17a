-- Plain queries: one anonymous query, whose selections are fields alone.
use Rattle.std.specs.Prelude.{ℕ, ◌&&◌, not, Bool, true, false, if◌then◌else◌, List, [], ◌∷◌, ◌++◌, Option, Some, None, is_none, option_map, option_and_then, bytes_eq, codes}
use Rattle.std.specs.List.{list_all, starts_with}
use Rattle.std.specs.Prelude.{nat_eq}
use Rattle.gql_model.specs.declared.name.Name.{Name}
use Rattle.gql_model.specs.declared.selection.SelectionSet.{SelectionSet}
use Rattle.gql_model.specs.declared.selection.Selection.{Selection as Selected}
use Rattle.gql_model.specs.declared.selection.Field.{Field}
use Rattle.gql_model.specs.declared.selection.Argument.{Argument}
use Rattle.gql_model.specs.declared.selection.Directive.{Directive}
use Rattle.gql_model.specs.declared.selection.Selection.TheOpen.{SelectionSet-F, Selection-F, Field-F, InlineFragment-F}
use Rattle.gql_model.specs.declared.selection.Selection.TheFolds.{fold-SelectionSet, fold-Selection, fold-Field}
use Rattle.gql_model.specs.declared.executable.OperationKind.{OperationKind}
use Rattle.gql_model.specs.declared.executable.OperationKind.TheVariants.{Query, Mutation, Subscription}
use Rattle.gql_model.specs.declared.executable.Operation.{Operation}
use Rattle.gql_model.specs.declared.document.Definition.{Definition}
use Rattle.gql_model.specs.declared.document.Definition.TheVariants as definition
use Rattle.gql_model.specs.declared.document.Document.{Document}
use Rattle.plain_queries.specs.declared.selection.Selection.{Selection}
use Rattle.plain_queries.specs.declared.selection.Selection.TheVariants.{Leaf, Set}

-- the fields of a selection set, by name
abbrev pub Fields : Type 0
Fields = List (List ℕ × Selection)

-- there is nothing in the list
abbrev pub is_empty : {A : Type 0} → List A → Bool
is_empty [] = true
is_empty (x ∷ xs) = false

-- names that begin with two underscores are kept for introspection (GraphQL October 2021, 2.1.9)
abbrev pub is_reserved : List ℕ → Bool
is_reserved name = starts_with nat_eq name (codes "__")

-- none of these fields has this name
abbrev pub lacks : Fields → List ℕ → Bool
lacks fields name = list_all (λ f. not (bytes_eq f.0 name)) fields

-- a field that is plain, by its name: what is selected of it
abbrev pub Plain : Type 0
Plain = Option (List ℕ × Selection)

-- what is selected of a field with this selection set, or with none
abbrev pub plain_selection : Option (Option Fields) → Option Selection
plain_selection None = Some Leaf
plain_selection (Some None) = None
plain_selection (Some (Some fields)) = Some (Set fields)

-- these fields and one more, where it is plain and none of them has its name
abbrev pub with_field : Fields → Plain → Option Fields
with_field fields None = None
with_field fields (Some field) = if lacks fields field.0 then Some (fields ++ field ∷ []) else None

-- these fields and more, one after another
abbrev pub with_fields : Fields → List Plain → Option Fields
with_fields fields [] = Some fields
with_fields fields (field ∷ rest) = option_and_then (λ more. with_fields more rest) (with_field fields field)

-- it has neither alias nor arguments nor directives, and its name isn't reserved
abbrev pub head_is_plain : Option Name → List ℕ → List Argument → List Directive → Bool
head_is_plain alias name arguments directives = is_none alias && is_empty arguments && is_empty directives && not (is_reserved name)

-- the field by its name, where it is plain
abbrev pub field_step : Field-F Plain Plain Plain (Option Fields) → Plain
field_step f =
    if head_is_plain f.alias f.name.text f.arguments f.directives
    then option_map (λ selection. (f.name.text, selection)) (plain_selection f.selection_set)
    else None

-- a plain selection is a field
abbrev pub selection_step : Selection-F Plain Plain Plain (Option Fields) → Plain
selection_step (Selection-F.Field field) = field
selection_step (Selection-F.Spread spread) = None
selection_step (Selection-F.Inline fragment) = None

-- an inline fragment is never plain
abbrev pub inline_step : InlineFragment-F Plain Plain Plain (Option Fields) → Plain
inline_step fragment = None

-- the fields of a selection set, where each of its selections is plain and no two have one name
abbrev pub set_step : SelectionSet-F Plain Plain Plain (Option Fields) → Option Fields
set_step set = with_fields [] set.selections

-- the fields of a selection set, where it is plain
abbrev pub plain_set : SelectionSet → Option Fields
plain_set = fold-SelectionSet Plain Plain Plain (Option Fields) selection_step field_step inline_step set_step

-- a selection as a field by its name, where it is plain
abbrev pub plain_of : Selected → Plain
plain_of = fold-Selection Plain Plain Plain (Option Fields) selection_step field_step inline_step set_step

-- a field by its name, where it is plain
abbrev pub plain_field : Field → Plain
plain_field = fold-Field Plain Plain Plain (Option Fields) selection_step field_step inline_step set_step

-- it is a query, and not another kind of operation
abbrev pub is_query : OperationKind → Bool
is_query Query = true
is_query Mutation = false
is_query Subscription = false

-- it is an anonymous query without variables and directives
abbrev pub is_plain : Operation → Bool
is_plain operation = is_query operation.kind && is_none operation.name && is_empty operation.variables && is_empty operation.directives

-- the fields of an operation, where it and its set are plain
abbrev pub plain_operation : Operation → Option Fields
plain_operation operation = if is_plain operation then plain_set operation.selection_set else None

-- the fields of a definition, where it is an operation and plain; a fragment and a type system definition never are
abbrev pub plain_definition : Definition → Option Fields
plain_definition (definition.Operation operation) = plain_operation operation
plain_definition (definition.Fragment fragment) = None
plain_definition (definition.TypeSystem d) = None

-- the fields of the one definition among these, where there is no other and it is plain
abbrev pub plain_definitions : List Definition → Option Fields
plain_definitions [] = None
plain_definitions (one ∷ []) = plain_definition one
plain_definitions (one ∷ other ∷ more) = None

-- the fields of a document, where it is one plain query
abbrev pub plain_query_of : Document → Option Fields
plain_query_of document = plain_definitions document.definitions
