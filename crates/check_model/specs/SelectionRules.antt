-- The rules on type conditions, fields and spreads (GraphQL October 2021, 5.3.1, 5.3.3, 5.5.1.2, 5.5.1.3 and 5.5.2.3).
use Rattle.std.specs.Prelude.{ℕ, Bool, true, false, ◌&&◌, ◌||◌, not, List, is_some, is_none}
use Rattle.std.specs.Option.{option_map_or}
use Rattle.gql_model.specs.declared.executable.Operation.{Operation}
use Rattle.gql_model.specs.declared.document.Document.{Document}
use Rattle.schema_model.specs.declared.schema.Schema.{Schema}
use Rattle.schema_model.specs.declared.schema.TypeId.{TypeId}
use Rattle.schema_model.specs.Schemas.{id_named, root_of, field_of}
use Rattle.schema_model.specs.Possible.{have_common_object_of}
use Rattle.check_model.specs.Executables.{some_operation}
use Rattle.check_model.specs.FieldTypes.{composite_named, is_typename, field_parent_on}
use Rattle.check_model.specs.Sites.{Site, some_site}

-- a type condition names no type
abbrev pub is_unknown_condition : Schema → Site → Bool
is_unknown_condition schema (Site.Condition name) = is_none (id_named schema name)
is_unknown_condition schema _ = false

-- V8, 5.5.1.2 Fragment Spread Type Existence
abbrev pub breaks_spread_type_existence : Schema → Document → Bool
breaks_spread_type_existence schema document = some_site (is_unknown_condition schema) schema document

-- a type condition isn't an object type, an interface or a union
abbrev pub is_condition_without_fields : Schema → Site → Bool
is_condition_without_fields schema (Site.Condition name) = is_none (composite_named schema name)
is_condition_without_fields schema _ = false

-- V9, 5.5.1.3 Fragments On Composite Types
abbrev pub breaks_fragments_on_composites : Schema → Document → Bool
breaks_fragments_on_composites schema document = some_site (is_condition_without_fields schema) schema document

-- a field isn't defined on the type of its set; `__typename` is on each
abbrev pub is_undefined_on : Schema → List ℕ → TypeId → Bool
is_undefined_on schema name parent = not (is_typename name) && is_none (field_of schema parent name)

-- the same of a field in a set that may be without a type: there no field counts as undefined
abbrev pub is_undefined_field : Schema → Site → Bool
is_undefined_field schema (Site.Selected parent name has_set) = option_map_or (is_undefined_on schema name) parent false
is_undefined_field schema _ = false

-- there is no root type for the operation's kind
abbrev pub is_rootless : Schema → Operation → Bool
is_rootless schema operation = is_none (root_of schema operation.kind)

-- V10, 5.3.1 Field Selections; that an operation's kind has no root type is this project's own case
abbrev pub breaks_field_selections : Schema → Document → Bool
breaks_field_selections schema document = some_operation (is_rootless schema) document || some_site (is_undefined_field schema) schema document

-- one of two is so without the other
abbrev pub differs : Bool → Bool → Bool
differs true b = not b
differs false b = b

-- a field has a selection set though it isn't of a composite type, or has none though it is;
-- `__typename` and a field that isn't defined are of no composite type
abbrev pub is_wrong_set_on : Schema → List ℕ → Bool → TypeId → Bool
is_wrong_set_on schema name has_set parent = differs has_set (is_some (field_parent_on schema name parent))

-- the same of a field in a set that may be without a type: there no field counts as wrong
abbrev pub is_wrong_set : Schema → Site → Bool
is_wrong_set schema (Site.Selected parent name has_set) = option_map_or (is_wrong_set_on schema name has_set) parent false
is_wrong_set schema _ = false

-- V11, 5.3.3 Leaf Field Selections
abbrev pub breaks_leaf_selections : Schema → Document → Bool
breaks_leaf_selections schema document = some_site (is_wrong_set schema) schema document

-- two composite types have no object type in common
abbrev pub are_apart : Schema → TypeId → TypeId → Bool
are_apart schema a b = not (have_common_object_of schema a b)

-- a fragment is spread where no object can be of its type
abbrev pub is_impossible_spread : Schema → Site → Bool
is_impossible_spread schema (Site.Spreading parent condition) = option_map_or (λ a. option_map_or (are_apart schema a) condition false) parent false
is_impossible_spread schema _ = false

-- V12, 5.5.2.3 Fragment Spread Is Possible
abbrev pub breaks_spread_possible : Schema → Document → Bool
breaks_spread_possible schema document = some_site (is_impossible_spread schema) schema document
