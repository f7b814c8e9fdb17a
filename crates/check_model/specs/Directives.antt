-- What a schema says of a directive; `@skip` and `@include` are in each schema (GraphQL October 2021, 3.13.1 and 3.13.2).
use Rattle.std.specs.Prelude.{ℕ, Bool, true, false, ◌||◌, List, [], ◌∷◌, None, cond, codes, bytes_eq}
use Rattle.std.specs.List.{list_any}
use Rattle.std.specs.Option.{option_map_or}
use Rattle.gql_model.specs.declared.executable.OperationKind.{OperationKind}
use Rattle.gql_model.specs.declared.executable.OperationKind.TheVariants as kind
use Rattle.gql_model.specs.declared.type_ref.TypeRef.{roll-TypeRef}
use Rattle.gql_model.specs.declared.type_ref.TypeRef.TheOpen.{TypeRef-F}
use Rattle.schema_model.specs.declared.schema.Schema.{Schema}
use Rattle.schema_model.specs.declared.schema.SchemaDirective.{SchemaDirective}
use Rattle.schema_model.specs.declared.schema.InputValue.{InputValue}
use Rattle.schema_model.specs.Tables.{entry}
use Rattle.check_model.specs.declared.location.Location.{Location}
use Rattle.check_model.specs.declared.location.Location.TheVariants as location

-- the name of a location (GraphQL October 2021, 3.13, ExecutableDirectiveLocation)
abbrev pub location_name : Location → List ℕ
location_name location.Query = codes "QUERY"
location_name location.Mutation = codes "MUTATION"
location_name location.Subscription = codes "SUBSCRIPTION"
location_name location.Field = codes "FIELD"
location_name location.FragmentDefinition = codes "FRAGMENT_DEFINITION"
location_name location.FragmentSpread = codes "FRAGMENT_SPREAD"
location_name location.InlineFragment = codes "INLINE_FRAGMENT"
location_name location.VariableDefinition = codes "VARIABLE_DEFINITION"

-- the location of an operation's own directives
abbrev pub operation_location : OperationKind → Location
operation_location kind.Query = location.Query
operation_location kind.Mutation = location.Mutation
operation_location kind.Subscription = location.Subscription

-- a selection
abbrev pub is_selection : Location → Bool
is_selection location.Field = true
is_selection location.FragmentSpread = true
is_selection location.InlineFragment = true
is_selection _ = false

-- `@skip` or `@include`, by which a selection is passed over
abbrev pub is_conditional : List ℕ → Bool
is_conditional name = bytes_eq name (codes "skip") || bytes_eq name (codes "include")

-- a directive that each schema has; two of them stand in type systems alone (GraphQL October 2021, 3.13.3 and 3.13.4)
abbrev pub is_built_in : List ℕ → Bool
is_built_in name = is_conditional name || bytes_eq name (codes "deprecated") || bytes_eq name (codes "specifiedBy")

-- `if: Boolean!`
abbrev pub condition : InputValue
condition = record {
  line = 0;
  input_type = record { place = record { row = 0; column = 0 }; type_ref = roll-TypeRef (TypeRef-F.Named (codes "Boolean") true) };
  default = None;
}

-- the arguments of `@skip` and of `@include`: `if: Boolean!` alone
abbrev pub condition_arguments : List (List ℕ × InputValue)
condition_arguments = (codes "if", condition) ∷ []

-- whether a directive of the schema lists this location among those where it may stand
abbrev pub has_location : Location → SchemaDirective → Bool
has_location place directive = list_any (λ l. bytes_eq l.text (location_name place)) directive.locations

-- whether a directive of this name may stand at a location
abbrev pub may_stand : Schema → Location → List ℕ → Bool
may_stand schema place name = cond (is_conditional name) (is_selection place) (option_map_or (has_location place) (entry schema.directives name) false)

-- the arguments that a directive of this name has
abbrev pub directive_arguments : Schema → List ℕ → List (List ℕ × InputValue)
directive_arguments schema name = cond (is_conditional name) condition_arguments (option_map_or (λ d. d.arguments) (entry schema.directives name) [])

-- whether a directive of this name may stand more than once at one place
abbrev pub is_repeatable : Schema → List ℕ → Bool
is_repeatable schema name = cond (is_conditional name) false (option_map_or (λ d. d.repeatable) (entry schema.directives name) false)
