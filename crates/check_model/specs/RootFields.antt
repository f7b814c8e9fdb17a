-- A subscription has a single root field (GraphQL October 2021, 5.2.3.1); `@skip` and `@include` are ignored, which is this project's own.
use Rattle.std.specs.Prelude.{ℕ, Bool, true, false, ◌&&◌, not, List, [], ◌∷◌, Option, Some, None, cond, bytes_eq}
use Rattle.std.specs.List.{list_all, flat_map}
use Rattle.std.specs.Option.{option_map_or}
use Rattle.gql_model.specs.declared.name.Name.{Name}
use Rattle.gql_model.specs.declared.selection.SelectionSet.{SelectionSet}
use Rattle.gql_model.specs.declared.selection.Selection.TheOpen.{SelectionSet-F, Selection-F, Field-F, InlineFragment-F}
use Rattle.gql_model.specs.declared.selection.Selection.TheFolds.{fold-SelectionSet}
use Rattle.gql_model.specs.declared.executable.OperationKind.{OperationKind}
use Rattle.gql_model.specs.declared.executable.OperationKind.TheVariants as kind
use Rattle.gql_model.specs.declared.executable.Operation.{Operation}
use Rattle.gql_model.specs.declared.executable.Fragment.{Fragment}
use Rattle.gql_model.specs.declared.document.Document.{Document}
use Rattle.schema_model.specs.declared.schema.Schema.{Schema}
use Rattle.schema_model.specs.declared.schema.TypeId.{TypeId}
use Rattle.schema_model.specs.Schemas.{id_named, root_of}
use Rattle.schema_model.specs.Possible.{is_possible_of}
use Rattle.check_model.specs.Executables.{some_operation}
use Rattle.check_model.specs.FieldTypes.{is_typename}
use Rattle.check_model.specs.Fields.{response_key}
use Rattle.check_model.specs.Followed.{Follow, followed}

-- a field's response key and its name
abbrev pub RootField : Type 0
RootField = List ℕ × List ℕ

-- root fields one after another, not grouped by their response keys: a field may be there twice
abbrev pub RootFields : Type 0
RootFields = List RootField

-- whether a fragment of this condition applies to objects of a type (GraphQL October 2021, 6.3.2, DoesFragmentTypeApply)
abbrev pub applies : Schema → TypeId → List ℕ → Bool
applies schema object condition = option_map_or (is_possible_of schema object) (id_named schema condition) false

-- whether an inline fragment applies to objects of a type: always where it has no condition
abbrev pub applies_inline : Schema → TypeId → Option Name → Bool
applies_inline schema object None = true
applies_inline schema object (Some condition) = applies schema object condition.text

-- a field gives its response key and its name; what is selected below it doesn't count
abbrev pub field_root : Field-F RootFields RootFields RootFields RootFields → RootFields
field_root field = (response_key field.alias field.name.text, field.name.text) ∷ []

-- the root fields of a selection; a spread gives those of its fragment
abbrev pub selection_root : Follow RootFields → Selection-F RootFields RootFields RootFields RootFields → RootFields
selection_root follow (Selection-F.Field field) = field
selection_root follow (Selection-F.Spread spread) = follow spread.name.text
selection_root follow (Selection-F.Inline fragment) = fragment

-- the root fields of an inline fragment: those of its set where it applies to the root type, or else none
abbrev pub inline_root : Schema → TypeId → InlineFragment-F RootFields RootFields RootFields RootFields → RootFields
inline_root schema object fragment = cond (applies_inline schema object fragment.type_condition) fragment.selection_set []

-- the root fields of all selections of a set, in their order
abbrev pub set_root : SelectionSet-F RootFields RootFields RootFields RootFields → RootFields
set_root set = flat_map (λ fields. fields) set.selections

-- the root fields of a selection set for a root type, where it is given what each spread gives
abbrev pub root_fields_of_set : Schema → TypeId → Follow RootFields → SelectionSet → RootFields
root_fields_of_set schema object follow =
    fold-SelectionSet RootFields RootFields RootFields RootFields (selection_root follow) field_root (inline_root schema object) set_root

-- the root fields of a fragment: those of its set where it applies to the root type, or else none
abbrev pub fragment_root : Schema → TypeId → Follow RootFields → Fragment → RootFields
fragment_root schema object follow fragment =
    cond (applies schema object fragment.type_condition.text) (root_fields_of_set schema object follow fragment.selection_set) []

-- the fields of an operation's own set for a root type, fragments that apply followed
abbrev pub root_fields : Schema → Document → TypeId → Operation → RootFields
root_fields schema document object operation =
    root_fields_of_set schema object (followed [] (fragment_root schema object) document) operation.selection_set

-- there is one response key, and the first field under it isn't `__typename`
abbrev pub is_single : RootFields → Bool
is_single [] = false
is_single (first ∷ more) = list_all (λ f. bytes_eq first.0 f.0) more && not (is_typename first.1)

-- whether operations of this kind are subscriptions
abbrev pub is_subscription : OperationKind → Bool
is_subscription kind.Query = false
is_subscription kind.Mutation = false
is_subscription kind.Subscription = true

-- a subscription's root fields aren't a single one, under a schema that has a root type for subscriptions
abbrev pub has_other_root_fields : Schema → Document → Operation → Bool
has_other_root_fields schema document operation =
    is_subscription operation.kind
    && option_map_or (λ root. not (is_single (root_fields schema document root operation))) (root_of schema operation.kind) false

-- V27, 5.2.3.1 Single Root Field
abbrev pub breaks_single_root_field : Schema → Document → Bool
breaks_single_root_field schema document = some_operation (has_other_root_fields schema document) document
