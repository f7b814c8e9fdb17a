-- Which selections are passed over (GraphQL October 2021, 3.13.1 and 3.13.2).
use Rattle.std.specs.Prelude.{Bool, true, false, not, ◌&&◌, ◌||◌, List, codes, bytes_eq}
use Rattle.std.specs.List.{list_any, find}
use Rattle.std.specs.Option.{option_map_or}
use Rattle.gql_model.specs.declared.literal.Literal.{Literal, out-Literal}
use Rattle.gql_model.specs.declared.literal.LiteralValue.{LiteralValue, out-LiteralValue}
use Rattle.gql_model.specs.declared.literal.ObjectField.{ObjectField}
use Rattle.gql_model.specs.declared.literal.LiteralValue.TheOpen.{LiteralValue-F}
use Rattle.gql_model.specs.declared.selection.Argument.{Argument}
use Rattle.gql_model.specs.declared.selection.Directive.{Directive}
use Rattle.gql_value.specs.declared.value.Value.{Value, out-Value}
use Rattle.gql_value.specs.declared.value.Value.TheOpen.{Value-F}
use Rattle.schema_model.specs.Tables.{entry}
use Rattle.execution_model.specs.Values.{Pairs}

-- whether a truth value is the wanted one, which comes first
abbrev pub is_wanted : Bool → Bool → Bool
is_wanted true b = b
is_wanted false b = not b

-- whether a value is the wanted truth value; null and other sorts of values aren't
abbrev pub is_bool_value : Bool → Value-F Value → Bool
is_bool_value wanted (Value-F.Bool b) = is_wanted wanted b
is_bool_value wanted _ = false

-- whether a literal is the wanted truth value, or a variable that has it as its value
abbrev pub is_bool_literal : Bool → Pairs → LiteralValue-F LiteralValue Literal ObjectField → Bool
is_bool_literal wanted variables (LiteralValue-F.Boolean b) = is_wanted wanted b
is_bool_literal wanted variables (LiteralValue-F.Variable name) = option_map_or (λ v. is_bool_value wanted (out-Value v)) (entry variables name) false
is_bool_literal wanted variables _ = false

-- whether the argument `if` is this truth value; null is neither
abbrev pub condition_is : Bool → Pairs → List Argument → Bool
condition_is wanted variables arguments =
    option_map_or (λ a. is_bool_literal wanted variables (out-LiteralValue (out-Literal a.value).value)) (find (λ a. bytes_eq a.name.text (codes "if")) arguments) false

-- `@skip(if: true)` or `@include(if: false)`
abbrev pub leaves_out : Pairs → Directive → Bool
leaves_out variables directive =
    (bytes_eq directive.name.text (codes "skip") && condition_is true variables directive.arguments)
    || (bytes_eq directive.name.text (codes "include") && condition_is false variables directive.arguments)

-- whether a selection with these directives is passed over
abbrev pub is_passed_over : Pairs → List Directive → Bool
is_passed_over variables directives = list_any (leaves_out variables) directives
