-- The types of selection sets and of the fields in them (GraphQL October 2021, 5.3.1; 4.1 for `__typename`).
use Rattle.std.specs.Prelude.{ℕ, Bool, true, false, List, [], Option, Some, None, cond, codes, bytes_eq}
use Rattle.std.specs.Option.{option_map_or, option_and_then}
use Rattle.gql_model.specs.declared.name.Name.{Name}
use Rattle.gql_model.specs.declared.executable.OperationKind.{OperationKind}
use Rattle.gql_model.specs.declared.type_ref.TypeRef.{TypeRef, roll-TypeRef}
use Rattle.gql_model.specs.declared.type_ref.TypeRef.TheOpen.{TypeRef-F}
use Rattle.schema_model.specs.declared.schema.Schema.{Schema}
use Rattle.schema_model.specs.declared.schema.TypeId.{TypeId}
use Rattle.schema_model.specs.declared.schema.TypeForm.{TypeForm}
use Rattle.schema_model.specs.declared.schema.TypeForm.TheVariants as form
use Rattle.schema_model.specs.declared.schema.InputValue.{InputValue}
use Rattle.schema_model.specs.Schemas.{type_at, id_named, root_of, field_of, field_type_of}
use Rattle.schema_rules.specs.TypeRefs.{named_type}

-- an object type, an interface or a union (GraphQL October 2021, 5.5.1.3)
abbrev pub is_composite : TypeForm → Bool
is_composite (form.Object parts) = true
is_composite (form.Interface parts) = true
is_composite (form.Union members) = true
is_composite _ = false

-- whether the type of a number is composite
abbrev pub is_composite_type : Schema → TypeId → Bool
is_composite_type schema id = option_map_or (λ t. is_composite t.1.form) (type_at schema id) false

-- the type of a selection set: a composite type, or none where the set stands at no such type
abbrev pub Parent : Type 0
Parent = Option TypeId

-- a type, where it is composite
abbrev pub composite : Schema → Option TypeId → Parent
composite schema type = option_and_then (λ id. cond (is_composite_type schema id) (Some id) None) type

-- the composite type of a name
abbrev pub composite_named : Schema → List ℕ → Parent
composite_named schema name = composite schema (id_named schema name)

-- the type of the own set of an operation of this kind
abbrev pub root_parent : Schema → OperationKind → Parent
root_parent schema kind = composite schema (root_of schema kind)

-- the type of the set of an inline fragment that stands in a set of this type
abbrev pub inline_parent : Schema → Parent → Option Name → Parent
inline_parent schema parent None = parent
inline_parent schema parent (Some condition) = composite_named schema condition.text

-- whether a field's name is `__typename`
abbrev pub is_typename : List ℕ → Bool
is_typename name = bytes_eq name (codes "__typename")

-- the type of `__typename`
abbrev pub typename_type : TypeRef
typename_type = roll-TypeRef (TypeRef-F.Named (codes "String") true)

-- the type of a field of this name in a set of this type, where it is defined: `__typename` is on each composite type
abbrev pub selected_on : Schema → List ℕ → TypeId → Option TypeRef
selected_on schema name parent = cond (is_typename name) (Some typename_type) (field_type_of schema parent name)

-- the same in a set that may be without a type: there no field has one
abbrev pub selected_type : Schema → Parent → List ℕ → Option TypeRef
selected_type schema parent name = option_and_then (selected_on schema name) parent

-- the type of the set of a field of this type
abbrev pub parent_below : Schema → TypeRef → Parent
parent_below schema type = composite_named schema (named_type type)

-- the type of the set of a field of this name in a set of this type: `__typename` has none, for `String` isn't composite
abbrev pub field_parent_on : Schema → List ℕ → TypeId → Parent
field_parent_on schema name parent = cond (is_typename name) None (option_and_then (parent_below schema) (field_type_of schema parent name))

-- the same in a set that may be without a type: there the set of a field has none either
abbrev pub field_parent : Schema → Parent → List ℕ → Parent
field_parent schema parent name = option_and_then (field_parent_on schema name) parent

-- the arguments that a field of this name has in a set of this type
abbrev pub arguments_on : Schema → List ℕ → TypeId → List (List ℕ × InputValue)
arguments_on schema name parent = option_map_or (λ f. f.arguments) (field_of schema parent name) []

-- the same in a set that may be without a type: there no field has arguments
abbrev pub field_arguments : Schema → Parent → List ℕ → List (List ℕ × InputValue)
field_arguments schema parent name = option_map_or (arguments_on schema name) parent []
