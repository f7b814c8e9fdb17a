-- The values of variables as a table (GraphQL October 2021, 6.1.2).
use Rattle.std.specs.Prelude.{◌≡◌, ℕ, List, map, bytes_eq, ⊤}
use Rattle.std.specs.List.{fold, IsDistinct}
use Rattle.std.specs.declared.result.Result.{Result}
use Rattle.std.specs.declared.result.Result.TheVariants.{Ok, Err}
use Rattle.gql_model.specs.declared.executable.VariableDefinition.{VariableDefinition}
use Rattle.schema_model.specs.Tables.{put}
use Rattle.execution_model.specs.Values.{Pairs}
use Rattle.gql_coercion.specs.declared.error.CoerceError.{CoerceError}
use Rattle.gql_coercion.specs.declared.error.CoerceError.TheVariants as refusal

-- values, and those of the variables that are left; of two variables with one name the first counts, though validation lets no second through
abbrev pub with_more : Pairs → Result Pairs (List ℕ) → Result Pairs (List ℕ)
with_more values (Ok more) = Ok (fold put values more)
with_more values (Err name) = Err name

-- the names of declared variables
abbrev pub variable_names : List VariableDefinition → List (List ℕ)
variable_names declared = map (λ d. d.name.text) declared

-- no two declared variables have one name (GraphQL October 2021, 5.8.1)
abbrev pub HasDistinctVariables : List VariableDefinition → Type 0
HasDistinctVariables declared = IsDistinct bytes_eq (variable_names declared)

-- why there are no values: memory, of which nothing is said, or the first variable that is refused
abbrev pub IsCoerceError : Result Pairs (List ℕ) → CoerceError → Type 0
IsCoerceError expected refusal.Memory = ⊤
IsCoerceError expected (refusal.BadVariable name) = expected ≡ Err name
