-- Literals without variables, as defaults are (GraphQL October 2021, 2.9, Value: in a constant no variable may stand).
use Rattle.std.specs.Prelude.{Bool, true, false, Option}
use Rattle.std.specs.List.{list_all}
use Rattle.std.specs.Option.{option_map_or}
use Rattle.gql_model.specs.declared.literal.Literal.{Literal}
use Rattle.gql_model.specs.declared.literal.LiteralValue.{LiteralValue}
use Rattle.gql_model.specs.declared.literal.ObjectField.{ObjectField}
use Rattle.gql_model.specs.declared.literal.LiteralValue.TheOpen.{Literal-F, LiteralValue-F, ObjectField-F}
use Rattle.gql_model.specs.declared.literal.LiteralValue.TheFolds.{fold-Literal, fold-LiteralValue, fold-ObjectField}

-- a variable is no constant, and a list or an object is one where its parts are
abbrev pub constant_in_value : LiteralValue-F Bool Bool Bool → Bool
constant_in_value (LiteralValue-F.Variable name) = false
constant_in_value (LiteralValue-F.List items) = list_all (λ c. c) items
constant_in_value (LiteralValue-F.Object fields) = list_all (λ c. c) fields
constant_in_value _ = true

-- a literal is a constant where its value is one
abbrev pub constant_in_literal : Literal-F Bool Bool Bool → Bool
constant_in_literal l = l.value

-- a field of an object literal is a constant where its value is one
abbrev pub constant_in_field : ObjectField-F Bool Bool Bool → Bool
constant_in_field f = f.value

-- whether a literal has no variable, at any depth
abbrev pub is_constant : Literal → Bool
is_constant = fold-Literal Bool Bool Bool constant_in_value constant_in_literal constant_in_field

-- the same of the value of a literal
abbrev pub is_constant_value : LiteralValue → Bool
is_constant_value = fold-LiteralValue Bool Bool Bool constant_in_value constant_in_literal constant_in_field

-- the same of a field of an object literal
abbrev pub is_constant_field : ObjectField → Bool
is_constant_field = fold-ObjectField Bool Bool Bool constant_in_value constant_in_literal constant_in_field

-- a default, where there is one, has no variable
abbrev pub is_constant_default : Option Literal → Bool
is_constant_default default = option_map_or is_constant default true
