-- The operation that a name chooses, by its place (GraphQL October 2021, 6.1, GetOperation).
use Rattle.std.specs.Prelude.{ℕ, Bool, true, List, Option, slice_get, position}
use Rattle.std.specs.Option.{option_map, option_map_or, option_and_then}
use Rattle.gql_model.specs.declared.executable.Operation.{Operation}
use Rattle.gql_model.specs.declared.executable.VariableDefinition.{VariableDefinition}
use Rattle.gql_model.specs.declared.document.Document.{Document}
use Rattle.check_model.specs.Executables.{operation_is, is_operation_of}
use Rattle.fragment_rules.specs.Choices.{as_operation}

-- whether an operation has the given name; each has where none is given
abbrev pub is_asked : Option (List ℕ) → Operation → Bool
is_asked name operation = option_map_or (λ n. is_operation_of n operation) name true

-- the place of the first such operation among the definitions, counted from 0
abbrev pub chosen_place : Document → Option (List ℕ) → Option ℕ
chosen_place document name = position (operation_is (is_asked name)) document.definitions

-- the operation that is the definition at a place
abbrev pub operation_at : Document → ℕ → Option Operation
operation_at document place = option_and_then as_operation (slice_get document.definitions place)

-- the definitions of that operation's variables
abbrev pub variables_at : Document → ℕ → Option (List VariableDefinition)
variables_at document place = option_map (λ o. o.variables) (operation_at document place)
