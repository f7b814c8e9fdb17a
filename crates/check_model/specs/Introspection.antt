-- Introspection, which this gateway doesn't answer (GraphQL October 2021, 4): names that begin with two underscores.
use Rattle.std.specs.Prelude.{ℕ, Bool, false, ◌&&◌, ◌||◌, not, List, Option, codes, nat_eq}
use Rattle.std.specs.List.{list_any, starts_with}
use Rattle.std.specs.Option.{unwrap_or, option_map_or}
use Rattle.gql_model.specs.declared.name.Name.{Name}
use Rattle.gql_model.specs.declared.selection.Field.{Field}
use Rattle.gql_model.specs.declared.selection.InlineFragment.{InlineFragment}
use Rattle.gql_model.specs.declared.selection.Selection.{Selection}
use Rattle.gql_model.specs.declared.selection.SelectionSet.{SelectionSet}
use Rattle.gql_model.specs.declared.selection.Selection.TheOpen.{SelectionSet-F, Selection-F, Field-F, InlineFragment-F}
use Rattle.gql_model.specs.declared.selection.Selection.TheFolds.{fold-SelectionSet, fold-Selection, fold-Field, fold-InlineFragment}
use Rattle.gql_model.specs.declared.document.Document.{Document}
use Rattle.check_model.specs.Executables.{some_operation, some_fragment}
use Rattle.check_model.specs.FieldTypes.{is_typename}

-- names that begin with two underscores are kept for introspection (GraphQL October 2021, 2.1.9)
abbrev pub is_reserved : List ℕ → Bool
is_reserved name = starts_with nat_eq name (codes "__")

-- whether there is an alias and it begins with two underscores
abbrev pub is_reserved_alias : Option Name → Bool
is_reserved_alias alias = option_map_or (λ a. is_reserved a.text) alias false

-- a field whose name is reserved and isn't `__typename`, or whose alias is reserved, `__typename` too
abbrev pub is_introspective : Option Name → List ℕ → Bool
is_introspective alias name = is_reserved_alias alias || (is_reserved name && not (is_typename name))

-- a selection has such a field where its field or its inline fragment has one; a spread has none
abbrev pub selection_introspects : Selection-F Bool Bool Bool Bool → Bool
selection_introspects (Selection-F.Field field) = field
selection_introspects (Selection-F.Spread spread) = false
selection_introspects (Selection-F.Inline fragment) = fragment

-- a field is such a field, or its selection set has one
abbrev pub field_introspects : Field-F Bool Bool Bool Bool → Bool
field_introspects field = is_introspective field.alias field.name.text || unwrap_or field.selection_set false

-- an inline fragment has such a field where its selection set has one
abbrev pub inline_introspects : InlineFragment-F Bool Bool Bool Bool → Bool
inline_introspects fragment = fragment.selection_set

-- a selection set has such a field where one of its selections has one
abbrev pub set_introspects : SelectionSet-F Bool Bool Bool Bool → Bool
set_introspects set = list_any (λ b. b) set.selections

-- whether a selection set has such a field, at any depth
abbrev pub introspects : SelectionSet → Bool
introspects = fold-SelectionSet Bool Bool Bool Bool selection_introspects field_introspects inline_introspects set_introspects

-- whether a selection has such a field, at any depth
abbrev pub introspects_in_selection : Selection → Bool
introspects_in_selection = fold-Selection Bool Bool Bool Bool selection_introspects field_introspects inline_introspects set_introspects

-- whether a field is one such or has one in its selection set, at any depth
abbrev pub introspects_in_field : Field → Bool
introspects_in_field = fold-Field Bool Bool Bool Bool selection_introspects field_introspects inline_introspects set_introspects

-- whether an inline fragment has such a field, at any depth
abbrev pub introspects_in_inline : InlineFragment → Bool
introspects_in_inline = fold-InlineFragment Bool Bool Bool Bool selection_introspects field_introspects inline_introspects set_introspects

-- whether some operation or fragment has such a field
abbrev pub is_introspection : Document → Bool
is_introspection document =
    some_operation (λ o. introspects o.selection_set) document
    || some_fragment (λ f. introspects f.selection_set) document
