-- The values of an operation's variables (GraphQL October 2021, 6.1.2, CoerceVariableValues).
use Rattle.std.specs.Prelude.{ℕ, nat_lt, List, [], ◌∷◌, Some, cond}
use Rattle.std.specs.Option.{option_map_or}
use Rattle.std.specs.declared.result.Result.{Result}
use Rattle.std.specs.declared.result.Result.TheVariants.{Ok, Err}
use Rattle.gql_model.specs.declared.executable.VariableDefinition.{VariableDefinition}
use Rattle.schema_model.specs.declared.schema.Schema.{Schema}
use Rattle.schema_model.specs.Tables.{entry}
use Rattle.schema_rules.specs.TypeRefs.{is_non_null}
use Rattle.execution_model.specs.Values.{Pairs, depth}
use Rattle.execution_model.specs.Inputs.{Given, Absent, Refused, Is, as_given, Defaults}
use Rattle.execution_model.specs.Defaults.{constant}
use Rattle.execution_model.specs.Offers.{offered}

-- a value that nests lists and objects deeper than 126 is refused, so that its text can be read again; this project's own bound
abbrev pub bounded : Given → Given
bounded (Is value) = cond (nat_lt 126 (depth value)) Refused (Is value)
bounded given = given

-- a variable that isn't given takes its default; without one it has no value, which a Non-Null type doesn't take
abbrev pub not_given : Defaults → Schema → VariableDefinition → Given
not_given defaults schema variable =
    option_map_or (λ literal. as_given (constant defaults schema literal variable.variable_type.type_ref)) variable.default
    (cond (is_non_null variable.variable_type.type_ref) Refused Absent)

-- what a declared variable becomes: the given value at its type, or else its default; refused where that nests too deep
abbrev pub variable_meaning : Defaults → Schema → Pairs → VariableDefinition → Given
variable_meaning defaults schema given variable =
    bounded (option_map_or (λ value. offered defaults schema value (Some variable.variable_type.type_ref)) (entry given variable.name.text) (not_given defaults schema variable))

-- the values of the variables behind, with this one's in front unless it is absent; or the name of the first variable that is refused
abbrev pub with_variable : List ℕ → Given → Result Pairs (List ℕ) → Result Pairs (List ℕ)
with_variable name Refused more = Err name
with_variable name Absent more = more
with_variable name (Is value) (Ok more) = Ok ((name, value) ∷ more)
with_variable name (Is value) (Err other) = Err other

-- the values of declared variables, in order, where these are given; names that aren't declared are dropped
abbrev pub coerced_variables : Defaults → Schema → Pairs → List VariableDefinition → Result Pairs (List ℕ)
coerced_variables defaults schema given [] = Ok []
coerced_variables defaults schema given (variable ∷ variables) =
    with_variable variable.name.text (variable_meaning defaults schema given variable) (coerced_variables defaults schema given variables)
