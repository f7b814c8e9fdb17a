-- The rules on variables (GraphQL October 2021, 5.8).
use Rattle.std.specs.Prelude.{ℕ, Bool, false, ◌&&◌, ◌||◌, not, List, Option, Some, None, is_none, map, bytes_eq}
use Rattle.std.specs.List.{list_any, find}
use Rattle.std.specs.Option.{option_map_or}
use Rattle.gql_model.specs.declared.literal.Literal.{Literal}
use Rattle.gql_model.specs.declared.type_ref.TypeRef.{TypeRef, out-TypeRef, roll-TypeRef, fold-TypeRef}
use Rattle.gql_model.specs.declared.type_ref.TypeRef.TheOpen.{TypeRef-F}
use Rattle.gql_model.specs.declared.executable.Operation.{Operation}
use Rattle.gql_model.specs.declared.executable.VariableDefinition.{VariableDefinition}
use Rattle.gql_model.specs.declared.document.Document.{Document}
use Rattle.gql_model.specs.declared.document.Definition.{Definition}
use Rattle.schema_model.specs.declared.schema.Schema.{Schema}
use Rattle.schema_model.specs.Tables.{entry}
use Rattle.schema_rules.specs.Misplaced.{is_input}
use Rattle.schema_rules.specs.TypeRefs.{named_type, is_non_null}
use Rattle.schema_rules.specs.Subtypes.{may_be}
use Rattle.check_model.specs.Executables.{some_operation, operation_is, placed}
use Rattle.check_model.specs.Repeated.{stands_twice}
use Rattle.check_model.specs.ArgumentRules.{is_null}
use Rattle.check_model.specs.Usages.{Wanted, Usage, Usages, followed_usages}

-- the names of the variables that an operation declares, as they stand
abbrev pub variable_names : Operation → List (List ℕ)
variable_names operation = map (λ v. v.name.text) operation.variables

-- V19, 5.8.1 Variable Uniqueness: an operation declares a name twice
abbrev pub breaks_variable_uniqueness : Document → Bool
breaks_variable_uniqueness document = some_operation (λ o. stands_twice (variable_names o)) document

-- a declared type is a scalar, an enum or an input object under its lists
abbrev pub is_input_type : Schema → TypeRef → Bool
is_input_type schema type = option_map_or (λ t. is_input t.form) (entry schema.types (named_type type)) false

-- a variable is declared with a type that is no input type, or that the schema doesn't have
abbrev pub has_no_input_type : Schema → VariableDefinition → Bool
has_no_input_type schema variable = not (is_input_type schema variable.variable_type.type_ref)

-- V20, 5.8.2 Variables Are Input Types
abbrev pub breaks_variables_are_input_types : Schema → Document → Bool
breaks_variables_are_input_types schema document = some_operation (λ o. list_any (has_no_input_type schema) o.variables) document

-- the variable of a name that an operation declares
abbrev pub variable_named : Operation → List ℕ → Option VariableDefinition
variable_named operation name = find (λ v. bytes_eq name v.name.text) operation.variables

-- a use is of a variable that the operation doesn't declare
abbrev pub is_undeclared : Operation → Usage → Bool
is_undeclared operation usage = is_none (variable_named operation usage.name)

-- the definition at a place is an operation that, spreads followed, uses a variable that it doesn't declare
abbrev pub uses_undeclared : Schema → Document → ℕ × Definition → Bool
uses_undeclared schema document p = operation_is (λ o. list_any (is_undeclared o) (followed_usages schema document p)) p.1

-- V21, 5.8.3 All Variable Uses Defined: an operation, spreads followed, uses a name that it doesn't declare
abbrev pub breaks_variable_uses_defined : Schema → Document → Bool
breaks_variable_uses_defined schema document = list_any (uses_undeclared schema document) (placed document)

-- a declared variable is in none of these uses
abbrev pub is_unused : Usages → VariableDefinition → Bool
is_unused usages variable = not (list_any (λ u. bytes_eq variable.name.text u.name) usages)

-- the definition at a place is an operation that declares a variable and, spreads followed, doesn't use it
abbrev pub leaves_unused : Schema → Document → ℕ × Definition → Bool
leaves_unused schema document p = operation_is (λ o. list_any (is_unused (followed_usages schema document p)) o.variables) p.1

-- V22, 5.8.4 All Variables Used: a declared variable is used nowhere in the operation, spreads followed
abbrev pub breaks_variables_used : Schema → Document → Bool
breaks_variables_used schema document = list_any (leaves_unused schema document) (placed document)

-- ---- which types go into which (GraphQL October 2021, 5.8.5, AreTypesCompatible)

-- the other is a named type of this name, and Non-Null only where this one is
abbrev pub named_goes : List ℕ → Bool → TypeRef-F TypeRef → Bool
named_goes name required (TypeRef-F.Named other_name other) = may_be required other && bytes_eq name other_name
named_goes name required (TypeRef-F.List inner other) = false

-- the other is a list, Non-Null only where this one is, and the item type goes into its item type
abbrev pub list_goes : (TypeRef → Bool) → Bool → TypeRef-F TypeRef → Bool
list_goes goes required (TypeRef-F.Named name other) = false
list_goes goes required (TypeRef-F.List inner other) = may_be required other && goes inner

-- which types a type goes into, where it is known of a list which types its item type goes into
abbrev pub goes_step : TypeRef-F (TypeRef → Bool) → TypeRef → Bool
goes_step (TypeRef-F.Named name required) other = named_goes name required (out-TypeRef other)
goes_step (TypeRef-F.List goes required) other = list_goes goes required (out-TypeRef other)

-- the two types are equal, once the Non-Null marks that the first has and the second lacks are left out
abbrev pub goes_into : TypeRef → TypeRef → Bool
goes_into = fold-TypeRef (TypeRef → Bool) goes_step

-- a type, one level of it, without its own Non-Null mark; the item type of a list keeps its marks
abbrev pub nullable_at : TypeRef-F TypeRef → TypeRef
nullable_at (TypeRef-F.Named name required) = roll-TypeRef (TypeRef-F.Named name false)
nullable_at (TypeRef-F.List inner required) = roll-TypeRef (TypeRef-F.List inner false)

-- a type without the Non-Null mark that it has
abbrev pub nullable : TypeRef → TypeRef
nullable type = nullable_at (out-TypeRef type)

-- a default that isn't null
abbrev pub has_value : Option Literal → Bool
has_value None = false
has_value (Some literal) = not (is_null literal)

-- a nullable variable may stand at a Non-Null place where it has a default that isn't null, or the place has a default,
-- and its type goes into that of the place without its mark
abbrev pub goes_by_default : VariableDefinition → Wanted → Bool
goes_by_default variable wanted =
    is_non_null wanted.type && not (is_non_null variable.variable_type.type_ref)
    && goes_into variable.variable_type.type_ref (nullable wanted.type)
    && (has_value variable.default || wanted.has_default)

-- a variable may stand at a place by its type, or by a default (GraphQL October 2021, 5.8.5, IsVariableUsageAllowed)
abbrev pub may_stand_for : VariableDefinition → Wanted → Bool
may_stand_for variable wanted = goes_into variable.variable_type.type_ref wanted.type || goes_by_default variable wanted

-- a declared variable stands where one of its type may not;
-- where nothing is known of what is wanted, as inside a literal of a custom scalar, each may
abbrev pub is_disallowed : Operation → Usage → Bool
is_disallowed operation usage =
    option_map_or (λ v. option_map_or (λ w. not (may_stand_for v w)) usage.at false) (variable_named operation usage.name) false

-- the definition at a place is an operation that, spreads followed, uses a variable where it may not stand
abbrev pub uses_disallowed : Schema → Document → ℕ × Definition → Bool
uses_disallowed schema document p = operation_is (λ o. list_any (is_disallowed o) (followed_usages schema document p)) p.1

-- V25, 5.8.5 All Variable Usages Are Allowed: an operation, spreads followed, uses a variable where it may not stand
abbrev pub breaks_variable_usages_allowed : Schema → Document → Bool
breaks_variable_usages_allowed schema document = list_any (uses_disallowed schema document) (placed document)
