-- The first root field of a list, and whether all have its response key (GraphQL October 2021, 5.2.3.1).
use Rattle.std.specs.Prelude.{Bool, true, false, ◌&&◌, not, Option, Some, None, bytes_eq}
use Rattle.std.specs.Option.{option_map, option_map_or}
use Rattle.gql_model.specs.declared.selection.InlineFragment.{InlineFragment}
use Rattle.gql_model.specs.declared.selection.Selection.{Selection}
use Rattle.gql_model.specs.declared.selection.Selection.TheFolds.{fold-Selection, fold-InlineFragment}
use Rattle.schema_model.specs.declared.schema.Schema.{Schema}
use Rattle.schema_model.specs.declared.schema.TypeId.{TypeId}
use Rattle.check_model.specs.FieldTypes.{is_typename}
use Rattle.check_model.specs.Followed.{Follow}
use Rattle.check_model.specs.RootFields.{RootField, RootFields, field_root, selection_root, inline_root, set_root}
use Rattle.merge_rules.specs.declared.roots.RootKeys.{RootKeys}

-- the first root field, if there is one so far, and whether all so far have its response key
abbrev pub Keys : Type 0
Keys = Option RootField × Bool

-- what the keys that the walk keeps stand for: the first root field by its response key and name, and whether all have that key
abbrev pub keys_of : RootKeys → Keys
keys_of keys = (option_map (λ f. (f.key.now, f.name.now)) keys.first, keys.same)

-- before any root field: there is no first one, and no other response key
abbrev pub start : Keys
start = (None, true)

-- one field more: it becomes the first where there is none, or else its response key is compared with that of the first
abbrev pub noted_behind : Option RootField → Bool → RootField → Keys
noted_behind None same field = (Some field, same)
noted_behind (Some first) same field = (Some first, same && bytes_eq first.0 field.0)

-- one field more
abbrev pub noted : Keys → RootField → Keys
noted keys field = noted_behind keys.0 keys.1 field

-- there is one response key, and its first field isn't `__typename`
abbrev pub is_one : Keys → Bool
is_one keys = option_map_or (λ first. keys.1 && not (is_typename first.1)) keys.0 false

-- ---- the root fields of each part of a set

-- the root fields of a selection for a root type, where it is given what each spread gives
abbrev pub root_fields_of_selection : Schema → TypeId → Follow RootFields → Selection → RootFields
root_fields_of_selection schema object follow =
    fold-Selection RootFields RootFields RootFields RootFields (selection_root follow) field_root (inline_root schema object) set_root

-- the root fields of an inline fragment for a root type, none where it doesn't apply; it is given what each spread gives
abbrev pub root_fields_of_inline : Schema → TypeId → Follow RootFields → InlineFragment → RootFields
root_fields_of_inline schema object follow =
    fold-InlineFragment RootFields RootFields RootFields RootFields (selection_root follow) field_root (inline_root schema object) set_root
