-- S5: a type that is named doesn't exist, or a directive location is unknown (GraphQL October 2021, 3.13).
use Rattle.std.specs.Prelude.{ℕ, Bool, ◌||◌, List, Option, None, Some, cond, is_some, codes, bytes_eq}
use Rattle.std.specs.Option.{option_and_then}
use Rattle.gql_model.specs.declared.name.Name.{Name}
use Rattle.schema_model.specs.declared.schema.Schema.{Schema}
use Rattle.schema_model.specs.declared.schema.SchemaDirective.{SchemaDirective}
use Rattle.schema_model.specs.declared.schema.RootName.{RootName}
use Rattle.schema_model.specs.Tables.{entry}
use Rattle.schema_rules.specs.Lines.{earlier, least_by}
use Rattle.schema_rules.specs.Uses.{Judgement, least_use}

-- where a directive may stand in an executable document (GraphQL October 2021, 3.13, ExecutableDirectiveLocation)
abbrev pub is_executable_location : List ℕ → Bool
is_executable_location name =
    bytes_eq name (codes "QUERY") || bytes_eq name (codes "MUTATION") || bytes_eq name (codes "SUBSCRIPTION")
    || bytes_eq name (codes "FIELD") || bytes_eq name (codes "FRAGMENT_DEFINITION") || bytes_eq name (codes "FRAGMENT_SPREAD")
    || bytes_eq name (codes "INLINE_FRAGMENT") || bytes_eq name (codes "VARIABLE_DEFINITION")

-- where a directive may stand in a type system document (GraphQL October 2021, 3.13, TypeSystemDirectiveLocation)
abbrev pub is_type_system_location : List ℕ → Bool
is_type_system_location name =
    bytes_eq name (codes "SCHEMA") || bytes_eq name (codes "SCALAR") || bytes_eq name (codes "OBJECT")
    || bytes_eq name (codes "FIELD_DEFINITION") || bytes_eq name (codes "ARGUMENT_DEFINITION") || bytes_eq name (codes "INTERFACE")
    || bytes_eq name (codes "UNION") || bytes_eq name (codes "ENUM") || bytes_eq name (codes "ENUM_VALUE")
    || bytes_eq name (codes "INPUT_OBJECT") || bytes_eq name (codes "INPUT_FIELD_DEFINITION")

-- where a directive may stand at all
abbrev pub is_location : List ℕ → Bool
is_location name = is_executable_location name || is_type_system_location name

-- the line of a name that no type has
abbrev pub unknown : Schema → List ℕ → ℕ → Option ℕ
unknown schema name line = cond (is_some (entry schema.types name)) None (Some line)

-- a type that doesn't exist is a fault in every role
abbrev pub unknown_type : Schema → Judgement
unknown_type schema role name line = unknown schema name line

-- the line of a location that there isn't
abbrev pub unknown_location : Name → Option ℕ
unknown_location name = cond (is_location name.text) None (Some name.place.row)

-- the least line of an unknown location of a directive
abbrev pub unknown_locations : List ℕ × SchemaDirective → Option ℕ
unknown_locations d = least_by unknown_location d.1.locations

-- the line of a root whose name no type has; a root that is missing is no fault here
abbrev pub unknown_root : Schema → Option RootName → Option ℕ
unknown_root schema root = option_and_then (λ r. unknown schema r.text r.line) root

-- the least line of a root whose name no type has
abbrev pub unknown_roots : Schema → Option ℕ
unknown_roots schema =
    earlier (unknown_root schema schema.roots.query) (earlier (unknown_root schema schema.roots.mutation) (unknown_root schema schema.roots.subscription))

-- the least line of a name of no type, or of an unknown location
abbrev pub unknown_line : Schema → Option ℕ
unknown_line schema =
    earlier (least_use (unknown_type schema) schema) (earlier (least_by unknown_locations schema.directives) (unknown_roots schema))
