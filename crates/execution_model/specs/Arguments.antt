-- The values of the arguments of a field or a directive (GraphQL October 2021, 6.4.1, CoerceArgumentValues).
use Rattle.std.specs.Prelude.{ℕ, List, [], ◌∷◌, Some, cond, bytes_eq, Option}
use Rattle.std.specs.List.{find, flat_map}
use Rattle.std.specs.Option.{option_map_or, option_and_then}
use Rattle.gql_model.specs.declared.selection.Argument.{Argument}
use Rattle.gql_value.specs.declared.value.Value.{Value}
use Rattle.schema_model.specs.declared.schema.Schema.{Schema}
use Rattle.schema_model.specs.declared.schema.InputValue.{InputValue}
use Rattle.schema_rules.specs.TypeRefs.{is_non_null}
use Rattle.execution_model.specs.Values.{Pairs, null_value}
use Rattle.execution_model.specs.Inputs.{Defaults, Given, Absent, Is, or_default}
use Rattle.execution_model.specs.Defaults.{constant}
use Rattle.execution_model.specs.Literals.{literal_meaning}

-- the value of an argument's default
abbrev pub argument_default : Defaults → Schema → InputValue → Option Value
argument_default defaults schema defined = option_and_then (λ literal. constant defaults schema literal defined.input_type.type_ref) defined.default

-- what is given of an argument; a variable without value makes it absent
abbrev pub argument_given : Defaults → Schema → Pairs → List Argument → List ℕ × InputValue → Given
argument_given defaults schema variables arguments defined =
    option_map_or (λ a. literal_meaning defaults schema variables a.value (Some defined.1.input_type.type_ref))
    (find (λ a. bytes_eq a.name.text defined.0) arguments) Absent

-- Where a Non-Null argument has neither value nor default it counts as null, which in 6.4.1 is a field error; this project's own rule.
-- In an accepted operation only a variable without value can leave an argument so.
abbrev pub null_if_required : List ℕ × InputValue → Pairs
null_if_required defined = cond (is_non_null defined.1.input_type.type_ref) ((defined.0, null_value) ∷ []) []

-- an argument's name with the value that it has; without one the argument is left out, or null where it is Non-Null
abbrev pub argument_member : List ℕ × InputValue → Given → Pairs
argument_member defined (Is value) = (defined.0, value) ∷ []
argument_member defined _ = null_if_required defined

-- one defined argument, by what is given for it or else by its default
abbrev pub coerced_argument : Defaults → Schema → Pairs → List Argument → List ℕ × InputValue → Pairs
coerced_argument defaults schema variables arguments defined =
    argument_member defined (or_default defined.1 (argument_default defaults schema defined.1) (argument_given defaults schema variables arguments defined))

-- the arguments that have values, in the order of their definition
abbrev pub coerced_arguments : Defaults → Schema → Pairs → List (List ℕ × InputValue) → List Argument → Pairs
coerced_arguments defaults schema variables defined arguments = flat_map (coerced_argument defaults schema variables arguments) defined
