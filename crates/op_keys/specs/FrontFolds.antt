-- The sets in one field and in one inline fragment, for the rule of `execution_model` on what is put at the front of sets.
use Rattle.std.specs.Prelude.{Bool}
use Rattle.gql_model.specs.declared.selection.Field.{Field}
use Rattle.gql_model.specs.declared.selection.InlineFragment.{InlineFragment}
use Rattle.gql_model.specs.declared.selection.Selection.TheFolds.{fold-Field, fold-InlineFragment}
use Rattle.schema_model.specs.declared.schema.Schema.{Schema}
use Rattle.execution_model.specs.Fronts.{Fronting, FrontsIn, selection_fronts, field_fronts, inline_fronts, set_fronts}

-- one field: whether it is a plain `__typename`, and the flags of the sets in it
abbrev pub fronts_in_field : Schema → Bool → Field → Fronting
fronts_in_field schema subscribes =
    fold-Field Fronting Fronting FrontsIn FrontsIn selection_fronts (field_fronts schema) (inline_fronts schema) (set_fronts schema subscribes)

-- one inline fragment: the flags of its set and of the sets in it, where it stands in a set of a type
abbrev pub fronts_in_inline : Schema → Bool → InlineFragment → FrontsIn
fronts_in_inline schema subscribes =
    fold-InlineFragment Fronting Fronting FrontsIn FrontsIn selection_fronts (field_fronts schema) (inline_fronts schema) (set_fronts schema subscribes)
