-- The parts of selections that are numbered: fields, and the selection sets that they carry (GraphQL October 2021, 2.4 to 2.8).
use Rattle.std.specs.Prelude.{List, Option, Some, None}
use Rattle.gql_model.specs.declared.selection.SelectionSet.{SelectionSet, out-SelectionSet}
use Rattle.gql_model.specs.declared.selection.Selection.{Selection, out-Selection}
use Rattle.gql_model.specs.declared.selection.Selection.TheOpen.{Selection-F}
use Rattle.gql_model.specs.declared.selection.Field.{Field, out-Field}
use Rattle.gql_model.specs.declared.selection.InlineFragment.{InlineFragment}
use Rattle.gql_model.specs.declared.document.Definition.{Definition}
use Rattle.gql_model.specs.declared.document.Definition.TheVariants as definition

-- the selections of a set, in order
abbrev pub selections_of : SelectionSet → List Selection
selections_of set = (out-SelectionSet set).selections

-- the selection set of a field, where it has one
abbrev pub set_of_field : Field → Option SelectionSet
set_of_field field = (out-Field field).selection_set

-- one level of a selection: the set that it carries; a spread carries none
abbrev pub inner_set_in : Selection-F Selection Field InlineFragment SelectionSet → Option SelectionSet
inner_set_in (Selection-F.Field field) = set_of_field field
inner_set_in (Selection-F.Spread spread) = None
inner_set_in (Selection-F.Inline fragment) = Some fragment.selection_set

-- the selection set that a selection carries: a field may have one, an inline fragment has one
abbrev pub inner_set : Selection → Option SelectionSet
inner_set selection = inner_set_in (out-Selection selection)

-- one level of a selection: the field that it is; a spread and an inline fragment are none
abbrev pub as_field_in : Selection-F Selection Field InlineFragment SelectionSet → Option Field
as_field_in (Selection-F.Field field) = Some field
as_field_in (Selection-F.Spread spread) = None
as_field_in (Selection-F.Inline fragment) = None

-- the field that a selection is, where it is one
abbrev pub as_field : Selection → Option Field
as_field selection = as_field_in (out-Selection selection)

-- the selection set of a definition: an operation and a fragment have one
abbrev pub set_of_definition : Definition → Option SelectionSet
set_of_definition (definition.Operation operation) = Some operation.selection_set
set_of_definition (definition.Fragment fragment) = Some fragment.selection_set
set_of_definition (definition.TypeSystem form) = None
