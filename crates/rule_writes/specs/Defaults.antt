-- The defaults of arguments, as the values of a field's arguments of which none is given tell them (GraphQL October 2021, 6.4.1).
use Rattle.std.specs.Prelude.{ℕ, Bool, true, false, ◌&&◌, List, [], map, Option, cond}
use Rattle.std.specs.Option.{option_map_or}
use Rattle.gql_value.specs.declared.value.Value.{Value, out-Value}
use Rattle.gql_value.specs.declared.value.Value.TheOpen.{Value-F}
use Rattle.schema_model.specs.declared.schema.Schema.{Schema}
use Rattle.schema_model.specs.declared.schema.InputValue.{InputValue}
use Rattle.schema_model.specs.Tables.{entry}
use Rattle.schema_rules.specs.TypeRefs.{is_non_null}
use Rattle.execution_model.specs.declared.given.Given.{Given}
use Rattle.execution_model.specs.declared.given.Given.TheVariants.{Absent, Refused, Is}
use Rattle.execution_model.specs.Values.{Pairs}
use Rattle.execution_model.specs.Inputs.{Defaults, members_into}
use Rattle.execution_model.specs.Arguments.{coerced_arguments}
use Rattle.rule_effects.specs.Effects.{argument_given}

-- the values of arguments of which none is given
abbrev pub values_of_none : Defaults → Schema → List (List ℕ × InputValue) → Pairs
values_of_none defaults schema defined = coerced_arguments defaults schema [] defined []

-- whether one level of a value is null
abbrev pub null_level : Value-F Value → Bool
null_level Value-F.Null = true
null_level _ = false

-- whether a value is null
abbrev pub is_null : Value → Bool
is_null value = null_level (out-Value value)

-- the value of an argument of which none is given is its default's, but for null at a Non-Null type
abbrev pub value_or_refused : InputValue → Value → Given
value_or_refused defined value = cond (is_null value && is_non_null defined.input_type.type_ref) Refused (Is value)

-- what stands for an argument that isn't given, by its value in `values_of_none`; nothing where it has none there
abbrev pub not_given : InputValue → Option Value → Given
not_given defined value = option_map_or (value_or_refused defined) value Absent

-- what is given, or else what stands where nothing is
abbrev pub or_not_given : InputValue → Option Value → Given → Given
or_not_given defined value Absent = not_given defined value
or_not_given defined value given = given

-- an argument's name, with what `values` give of it, or where they give nothing, what its value among `members` comes to
abbrev pub member_with_default : Defaults → Schema → Pairs → Pairs → List ℕ × InputValue → List ℕ × Given
member_with_default defaults schema members values defined =
    (defined.0, or_not_given defined.1 (entry members defined.0) (argument_given defaults schema values defined))

-- the arguments by these values, where those of which none is given have these members
abbrev pub with_defaults : Defaults → Schema → Pairs → List (List ℕ × InputValue) → Pairs → Option Pairs
with_defaults defaults schema members defined values = members_into [] (map (member_with_default defaults schema members values) defined)
