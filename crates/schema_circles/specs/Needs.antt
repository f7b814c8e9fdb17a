-- S9: an input object that needs itself through Non-Null fields that aren't lists (GraphQL October 2021, 3.10, Circular References).
use Rattle.std.specs.Prelude.{ℕ, List, [], Option, None, cond, map}
use Rattle.std.specs.List.{flat_map}
use Rattle.std.specs.Option.{option_to_list}
use Rattle.gql_model.specs.declared.type_ref.TypeRef.{TypeRef, out-TypeRef}
use Rattle.gql_model.specs.declared.type_ref.TypeRef.TheOpen.{TypeRef-F}
use Rattle.schema_model.specs.declared.schema.Schema.{Schema}
use Rattle.schema_model.specs.declared.schema.InputValue.{InputValue}
use Rattle.schema_model.specs.declared.schema.TypeForm.{TypeForm}
use Rattle.schema_model.specs.declared.schema.TypeForm.TheVariants as form
use Rattle.schema_model.specs.Schemas.{NamedType}
use Rattle.schema_model.specs.Tables.{place_of}
use Rattle.digraph.specs.Walks.{Graph, circled}
use Rattle.schema_circles.specs.Marked.{least_marked}

-- the place of the type that a value can't be without: one that is Non-Null and no list
abbrev pub needed_type : Schema → TypeRef-F TypeRef → Option ℕ
needed_type schema (TypeRef-F.Named name required) = cond required (place_of schema.types name) None
needed_type schema (TypeRef-F.List inner required) = None

-- the place of the type that an input field needs
abbrev pub needed : Schema → InputValue → Option ℕ
needed schema input = needed_type schema (out-TypeRef input.input_type.type_ref)

-- the places of the types that these input fields need
abbrev pub needed_by : Schema → List (List ℕ × InputValue) → List ℕ
needed_by schema fields = flat_map (λ f. option_to_list (needed schema f.1)) fields

-- the places of the types that a type needs through its fields
abbrev pub needs : Schema → TypeForm → List ℕ
needs schema (form.Input fields) = needed_by schema fields
needs schema _ = []

-- for each type those that it needs
abbrev pub needs_graph : Schema → List NamedType → Graph
needs_graph schema types = map (λ t. needs schema t.1.form) types

-- the line of each type, in order
abbrev pub type_lines : List NamedType → List ℕ
type_lines types = map (λ t. t.1.line) types

-- the least line of a type that needs itself: a walk over needed types leads back to it
abbrev pub needs_itself_line : Schema → Option ℕ
needs_itself_line schema = least_marked (circled (needs_graph schema schema.types)) (type_lines schema.types)
