-- Which fields of an operation may be merged into one (after GraphQL October 2021, 5.3.2); the wording over pairs of fields is this project's own.
use Rattle.std.specs.Prelude.{ℕ, Bool, true, false, ◌&&◌, ◌||◌, not, List, [], ◌∷◌, bytes_eq, nat_eq}
use Rattle.std.specs.List.{list_any}
use Rattle.std.specs.Option.{option_map_or}
use Rattle.gql_model.specs.declared.document.Document.{Document}
use Rattle.schema_model.specs.declared.schema.Schema.{Schema}
use Rattle.schema_model.specs.declared.schema.TypeId.{TypeId}
use Rattle.schema_model.specs.Schemas.{type_at}
use Rattle.schema_model.specs.Possible.{is_object}
use Rattle.check_model.specs.Executables.{some_operation}
use Rattle.check_model.specs.FieldTypes.{Parent}
use Rattle.check_model.specs.Fields.{Placed, PlacedFields, operation_fields}
use Rattle.check_model.specs.Shapes.{same_shape}
use Rattle.check_model.specs.SameValues.{same_arguments}

-- two paths have the same response keys, one by one
abbrev pub same_path : List (List ℕ) → List (List ℕ) → Bool
same_path [] [] = true
same_path (k ∷ ks) (l ∷ ls) = bytes_eq k l && same_path ks ls
same_path _ _ = false

-- the types of two fields, where both are known, differ in shape
abbrev pub differ_in_shape : Schema → Placed → Placed → Bool
differ_in_shape schema a b = option_map_or (λ t. option_map_or (λ u. not (same_shape schema t u)) b.type false) a.type false

-- whether the type of a number is an object type
abbrev pub is_object_type : Schema → TypeId → Bool
is_object_type schema id = option_map_or (λ t. is_object t.1.form) (type_at schema id) false

-- some object may be of both types: they are one type, or one of them isn't an object type
abbrev pub may_overlap_types : Schema → TypeId → TypeId → Bool
may_overlap_types schema a b = nat_eq a.0 b.0 || not (is_object_type schema a) || not (is_object_type schema b)

-- some object may be of the types of both sets; a set without a type may overlap with any
abbrev pub may_overlap : Schema → Parent → Parent → Bool
may_overlap schema a b = option_map_or (λ x. option_map_or (may_overlap_types schema x) b true) a true

-- the same at each position of two chains
abbrev pub all_may_overlap : Schema → List Parent → List Parent → Bool
all_may_overlap schema (a ∷ parents) (b ∷ others) = may_overlap schema a b && all_may_overlap schema parents others
all_may_overlap schema _ _ = true

-- two fields ask for different things
abbrev pub ask_differently : Placed → Placed → Bool
ask_differently a b = not (bytes_eq a.name b.name && same_arguments a.arguments b.arguments)

-- two fields stand under one path and can't be merged
abbrev pub conflict : Schema → Placed → Placed → Bool
conflict schema a b =
    same_path a.path b.path
    && (differ_in_shape schema a b || (ask_differently a b && all_may_overlap schema a.parents b.parents))

-- two of these fields stand under one path and can't be merged
abbrev pub some_conflict : Schema → PlacedFields → Bool
some_conflict schema fields = list_any (λ a. list_any (conflict schema a) fields) fields

-- V26, 5.3.2 Field Selection Merging
abbrev pub breaks_field_merging : Schema → Document → Bool
breaks_field_merging schema document = some_operation (λ o. some_conflict schema (operation_fields schema document o)) document
