-- What look-ups find in a schema (GraphQL October 2021, 3).
use Rattle.std.specs.Prelude.{ℕ, Bool, false, List, Option, Some, None, is_some, slice_get}
use Rattle.std.specs.Option.{option_map, option_map_or, option_and_then}
use Rattle.gql_model.specs.declared.type_ref.TypeRef.{TypeRef}
use Rattle.gql_model.specs.declared.executable.OperationKind.{OperationKind}
use Rattle.gql_model.specs.declared.executable.OperationKind.TheVariants.{Query, Mutation, Subscription}
use Rattle.schema_model.specs.declared.schema.Schema.{Schema}
use Rattle.schema_model.specs.declared.schema.SchemaType.{SchemaType}
use Rattle.schema_model.specs.declared.schema.SchemaField.{SchemaField}
use Rattle.schema_model.specs.declared.schema.InputValue.{InputValue}
use Rattle.schema_model.specs.declared.schema.RootName.{RootName}
use Rattle.schema_model.specs.declared.schema.RootNames.{RootNames}
use Rattle.schema_model.specs.declared.schema.TypeId.{TypeId}
use Rattle.schema_model.specs.declared.schema.TypeForm.{TypeForm}
use Rattle.schema_model.specs.declared.schema.TypeForm.TheVariants as form
use Rattle.schema_model.specs.declared.schema.TypeKind.{TypeKind}
use Rattle.schema_model.specs.declared.schema.TypeKind.TheVariants as kind
use Rattle.schema_model.specs.Tables.{place_of, entry}

-- a type under its name
abbrev pub NamedType : Type 0
NamedType = List ℕ × SchemaType

-- the number that stands for a place among the types
abbrev pub id_at : ℕ → TypeId
id_at place = record { 0 = place }

-- the type that a number stands for
abbrev pub type_at : Schema → TypeId → Option NamedType
type_at schema id = slice_get schema.types id.0

-- the number of the type of a name
abbrev pub id_named : Schema → List ℕ → Option TypeId
id_named schema name = option_map id_at (place_of schema.types name)

-- what form a type has
abbrev pub kind_of : TypeForm → TypeKind
kind_of form.Scalar = kind.Scalar
kind_of (form.Object parts) = kind.Object
kind_of (form.Interface parts) = kind.Interface
kind_of (form.Union members) = kind.Union
kind_of (form.Enum values) = kind.Enum
kind_of (form.Input fields) = kind.InputObject

-- the name of the root type of a kind of operations (GraphQL October 2021, 3.3.1)
abbrev pub root_name : RootNames → OperationKind → Option RootName
root_name roots Query = roots.query
root_name roots Mutation = roots.mutation
root_name roots Subscription = roots.subscription

-- the number of the root type of a kind of operations
abbrev pub root_of : Schema → OperationKind → Option TypeId
root_of schema kind = option_and_then (λ name. id_named schema name.text) (root_name schema.roots kind)

-- a field of an object type or an interface; other types have none (GraphQL October 2021, 3.6 and 3.7)
abbrev pub field_in : TypeForm → List ℕ → Option SchemaField
field_in (form.Object parts) name = entry parts.fields name
field_in (form.Interface parts) name = entry parts.fields name
field_in _ name = None

-- a field of the type of a number
abbrev pub field_of : Schema → TypeId → List ℕ → Option SchemaField
field_of schema parent name = option_and_then (λ t. field_in t.1.form name) (type_at schema parent)

-- the type of a field
abbrev pub field_type_of : Schema → TypeId → List ℕ → Option TypeRef
field_type_of schema parent name = option_map (λ f. f.field_type.type_ref) (field_of schema parent name)

-- the fields of an input object type; other types have none (GraphQL October 2021, 3.10)
abbrev pub input_fields_in : TypeForm → Option (List (List ℕ × InputValue))
input_fields_in (form.Input fields) = Some fields
input_fields_in _ = None

-- the fields of the input object type of a number
abbrev pub input_fields_of : Schema → TypeId → Option (List (List ℕ × InputValue))
input_fields_of schema id = option_and_then (λ t. input_fields_in t.1.form) (type_at schema id)

-- whether an enum has this value; other types have none (GraphQL October 2021, 3.9)
abbrev pub has_value : TypeForm → List ℕ → Bool
has_value (form.Enum values) name = is_some (entry values name)
has_value _ name = false

-- whether the enum of a number has this value
abbrev pub enum_has : Schema → TypeId → List ℕ → Bool
enum_has schema id name = option_map_or (λ t. has_value t.1.form name) (type_at schema id) false
