-- The fields of each part of a set.
use Rattle.gql_model.specs.declared.selection.Field.{Field}
use Rattle.gql_model.specs.declared.selection.InlineFragment.{InlineFragment}
use Rattle.gql_model.specs.declared.selection.Selection.{Selection}
use Rattle.gql_model.specs.declared.selection.Selection.TheFolds.{fold-Selection, fold-Field, fold-InlineFragment}
use Rattle.schema_model.specs.declared.schema.Schema.{Schema}
use Rattle.check_model.specs.Followed.{Follow}
use Rattle.check_model.specs.Fields.{PlacedIn, PlacedFields, selection_fields, field_fields, inline_fields, set_fields}

-- the fields of a selection in a set of a type, at every depth, where it is given what each spread gives
abbrev pub fields_of_selection : Schema → Follow PlacedFields → Selection → PlacedIn
fields_of_selection schema follow =
    fold-Selection PlacedIn PlacedIn PlacedIn PlacedIn (selection_fields follow) (field_fields schema) (inline_fields schema) set_fields

-- a field in a set of a type, and the fields below it at every depth, where it is given what each spread gives
abbrev pub fields_of_field : Schema → Follow PlacedFields → Field → PlacedIn
fields_of_field schema follow =
    fold-Field PlacedIn PlacedIn PlacedIn PlacedIn (selection_fields follow) (field_fields schema) (inline_fields schema) set_fields

-- the fields of an inline fragment in a set of a type, at every depth, where it is given what each spread gives
abbrev pub fields_of_inline : Schema → Follow PlacedFields → InlineFragment → PlacedIn
fields_of_inline schema follow =
    fold-InlineFragment PlacedIn PlacedIn PlacedIn PlacedIn (selection_fields follow) (field_fields schema) (inline_fields schema) set_fields
