-- Selections that are `__typename` themselves, without alias and without directives.
use Rattle.std.specs.Prelude.{Bool, false}
use Rattle.gql_model.specs.declared.selection.SelectionSet.{SelectionSet}
use Rattle.gql_model.specs.declared.selection.Selection.{Selection, out-Selection}
use Rattle.gql_model.specs.declared.selection.Field.{Field, out-Field}
use Rattle.gql_model.specs.declared.selection.InlineFragment.{InlineFragment}
use Rattle.gql_model.specs.declared.selection.Selection.TheOpen.{Selection-F}
use Rattle.execution_model.specs.Fronts.{is_plain_typename}

-- whether a field is `__typename`, plainly
abbrev pub is_plain_field : Field → Bool
is_plain_field field = is_plain_typename (out-Field field).alias (out-Field field).name.text (out-Field field).directives

-- the same of a selection of each form; spreads and inline fragments aren't
abbrev pub is_plain_form : Selection-F Selection Field InlineFragment SelectionSet → Bool
is_plain_form (Selection-F.Field field) = is_plain_field field
is_plain_form _ = false

-- whether a selection is `__typename`, plainly
abbrev pub is_plain : Selection → Bool
is_plain selection = is_plain_form (out-Selection selection)
