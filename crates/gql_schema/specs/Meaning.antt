-- The schema that definitions make (GraphQL October 2021, 3.2 to 3.13).
use Rattle.std.specs.Prelude.{ℕ, List, [], ◌∷◌, ◌++◌, Option, None, Some, map, codes}
use Rattle.std.specs.List.{fold, flat_map}
use Rattle.std.specs.Option.{option_map, option_or, unwrap_or}
use Rattle.gql_model.specs.declared.name.Name.{Name}
use Rattle.gql_model.specs.declared.executable.OperationKind.{OperationKind}
use Rattle.gql_model.specs.declared.executable.OperationKind.TheVariants as operation
use Rattle.gql_model.specs.declared.type_system.TypeSystemForm.{TypeSystemForm}
use Rattle.gql_model.specs.declared.type_system.TypeSystemForm.TheVariants as definition
use Rattle.gql_model.specs.declared.type_system.RootOperation.{RootOperation}
use Rattle.gql_model.specs.declared.type_system.FieldDefinition.{FieldDefinition}
use Rattle.gql_model.specs.declared.type_system.InputDefinition.{InputDefinition}
use Rattle.gql_model.specs.declared.type_system.EnumValueDefinition.{EnumValueDefinition}
use Rattle.gql_model.specs.declared.type_system.DirectiveDefinition.{DirectiveDefinition}
use Rattle.schema_model.specs.declared.schema.Schema.{Schema}
use Rattle.schema_model.specs.declared.schema.SchemaField.{SchemaField}
use Rattle.schema_model.specs.declared.schema.SchemaDirective.{SchemaDirective}
use Rattle.schema_model.specs.declared.schema.InputValue.{InputValue}
use Rattle.schema_model.specs.declared.schema.Interfaced.{Interfaced}
use Rattle.schema_model.specs.declared.schema.RootName.{RootName}
use Rattle.schema_model.specs.declared.schema.RootNames.{RootNames}
use Rattle.schema_model.specs.declared.schema.TypeForm.{TypeForm}
use Rattle.schema_model.specs.declared.schema.TypeForm.TheVariants as form
use Rattle.schema_model.specs.Schemas.{NamedType}
use Rattle.schema_model.specs.Tables.{entry, tabled}
use Rattle.gql_schema.specs.Marks.{Mark, mark_of}
use Rattle.gql_schema.specs.Ignored.{scalars}

-- ---- the parts of a type

-- an argument or an input field
abbrev pub input_entry : InputDefinition → List ℕ × InputValue
input_entry d = (d.name.text, record { line = d.name.place.row; input_type = d.input_type; default = d.default })

-- arguments or input fields by name; of several with one name the first counts
abbrev pub inputs_of : List InputDefinition → List (List ℕ × InputValue)
inputs_of ds = tabled (map input_entry ds)

-- a field of an object type or an interface under its name, with its line, its arguments and its type
abbrev pub field_entry : FieldDefinition → List ℕ × SchemaField
field_entry d = (d.name.text, record { line = d.name.place.row; arguments = inputs_of d.arguments; field_type = d.field_type })

-- the fields of a type by name; of several with one name the first counts
abbrev pub fields_of : List FieldDefinition → List (List ℕ × SchemaField)
fields_of ds = tabled (map field_entry ds)

-- a value of an enum, with its line
abbrev pub value_entry : EnumValueDefinition → Mark
value_entry d = mark_of d.name

-- the interfaces of a type, or the members of a union, with their lines; of several with one name the first counts
abbrev pub names_of : List Name → List Mark
names_of names = tabled (map mark_of names)

-- what an object type or an interface has: the interfaces that it implements, and its fields
abbrev pub parts_of : List Name → List FieldDefinition → Interfaced
parts_of interfaces fields = record { interfaces = names_of interfaces; fields = fields_of fields }

-- ---- types and directives

-- a type of this form under its name, with the line of that name
abbrev pub typed : Name → TypeForm → NamedType
typed name body = (name.text, record { line = name.place.row; form = body })

-- the type that a definition defines
abbrev pub type_entries : TypeSystemForm → List NamedType
type_entries (definition.Scalar d) = typed d.name form.Scalar ∷ []
type_entries (definition.Object d) = typed d.name (form.Object (parts_of d.interfaces d.fields)) ∷ []
type_entries (definition.Interface d) = typed d.name (form.Interface (parts_of d.interfaces d.fields)) ∷ []
type_entries (definition.Union d) = typed d.name (form.Union (names_of d.members)) ∷ []
type_entries (definition.Enum d) = typed d.name (form.Enum (tabled (map value_entry d.values))) ∷ []
type_entries (definition.Input d) = typed d.name (form.Input (inputs_of d.fields)) ∷ []
type_entries _ = []

-- a directive: the line of its name, its arguments, whether it is repeatable, and its locations
abbrev pub directive_of : DirectiveDefinition → SchemaDirective
directive_of d = record { line = d.name.place.row; arguments = inputs_of d.arguments; repeatable = d.repeatable; locations = d.locations }

-- the directive that a definition defines
abbrev pub directive_entries : TypeSystemForm → List (List ℕ × SchemaDirective)
directive_entries (definition.Directive d) = (d.name.text, directive_of d) ∷ []
directive_entries _ = []

-- a built-in scalar
abbrev pub scalar_entry : List ℕ → NamedType
scalar_entry name = (name, record { line = 0; form = form.Scalar })

-- the types by name, the built-in scalars before those that are defined; of several with one name the first counts
abbrev pub types_of : List TypeSystemForm → List NamedType
types_of ds = tabled (map scalar_entry scalars ++ flat_map type_entries ds)

-- ---- roots

-- no kind of operations has a root type
abbrev pub no_roots : RootNames
no_roots = record { query = None; mutation = None; subscription = None }

-- the root type of this name, with the line of the name
abbrev pub root_at : Name → RootName
root_at name = record { line = name.place.row; text = name.text }

-- the roots with one more, unless its kind is there
abbrev pub with_root : RootNames → OperationKind → RootName → RootNames
with_root roots operation.Query name = record roots { query = option_or roots.query (Some name) }
with_root roots operation.Mutation name = record roots { mutation = option_or roots.mutation (Some name) }
with_root roots operation.Subscription name = record roots { subscription = option_or roots.subscription (Some name) }

-- the roots of one `schema`; of several for one kind of operations the first counts
abbrev pub roots_of : List RootOperation → RootNames
roots_of roots = fold (λ names r. with_root names r.kind (root_at r.named)) no_roots roots

-- the roots that `schema` names
abbrev pub schema_roots : TypeSystemForm → Option RootNames
schema_roots (definition.Schema d) = Some (roots_of d.roots)
schema_roots _ = None

-- the type of a name as a root, if it exists
abbrev pub default_root : List NamedType → List ℕ → Option RootName
default_root types name = option_map (λ t. record { line = t.line; text = name }) (entry types name)

-- where there is no `schema`: the types of these names that exist (GraphQL October 2021, 3.3.1)
abbrev pub default_roots : List NamedType → RootNames
default_roots types = record {
  query = default_root types (codes "Query");
  mutation = default_root types (codes "Mutation");
  subscription = default_root types (codes "Subscription");
}

-- the roots that the first `schema` names, where there is one
abbrev pub stated_roots : List TypeSystemForm → Option RootNames
stated_roots ds = fold (λ roots d. option_or roots (schema_roots d)) None ds

-- ---- the schema

-- the types, the directives by name, and the roots that `schema` names, or the default ones where there is no `schema`
abbrev pub schema_of : List TypeSystemForm → Schema
schema_of ds = record {
  types = types_of ds;
  directives = tabled (flat_map directive_entries ds);
  roots = unwrap_or (stated_roots ds) (default_roots (types_of ds));
}
