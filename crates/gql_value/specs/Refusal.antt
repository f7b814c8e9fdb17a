-- What a refusal tells of the first number that isn't whole, where its steps are given.
use Rattle.std.specs.Prelude.{◌≡◌, ℕ, List, Option, Some, reverse, option_map}
use Rattle.gql_value.specs.Json.{dotted}
use Rattle.gql_value.specs.declared.json_error.JsonError.{JsonError}
use Rattle.gql_value.specs.declared.json_error.JsonError.TheVariants as error
use Rattle.gql_value.specs.declared.refusal.Refusal.{Refusal}
use Rattle.gql_value.specs.declared.refusal.Refusal.TheVariants.{Memory, NotWhole}

-- there is such a number and these are the steps to it, the last first, or memory ran out
abbrev pub IsStepsOf : Option (List (List ℕ)) → Refusal → Type 0
IsStepsOf first Memory = Unit {0}
IsStepsOf first (NotWhole steps) = first ≡ Some (reverse steps)

-- there is such a number and this is the path to it, or memory ran out
abbrev pub IsPathTo : Option (List (List ℕ)) → JsonError → Type 0
IsPathTo first error.Memory = Unit {0}
IsPathTo first (error.NotWhole path) = option_map dotted first ≡ Some path
