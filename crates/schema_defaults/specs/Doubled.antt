-- Object literals in which a field stands twice (GraphQL October 2021, 5.6.3, Input Object Field Uniqueness).
use Rattle.std.specs.Prelude.{ℕ, Bool, false, ◌||◌, List, map, is_some}
use Rattle.std.specs.List.{list_any}
use Rattle.gql_model.specs.declared.literal.Literal.{Literal}
use Rattle.gql_model.specs.declared.literal.LiteralValue.{LiteralValue}
use Rattle.gql_model.specs.declared.literal.ObjectField.{ObjectField}
use Rattle.gql_model.specs.declared.literal.LiteralValue.TheOpen.{Literal-F, LiteralValue-F, ObjectField-F}
use Rattle.gql_model.specs.declared.literal.LiteralValue.TheFolds.{fold-Literal, fold-LiteralValue, fold-ObjectField}
use Rattle.schema_rules.specs.Lines.{Mark}
use Rattle.schema_defaults.specs.Repetitions.{repeated}

-- the name of a field, and whether a field stands twice in its value
abbrev pub FieldDoubled : Type 0
FieldDoubled = List ℕ × Bool

-- the names of the fields, at no line
abbrev pub names_in : List FieldDoubled → List Mark
names_in fields = map (λ f. (f.0, 0)) fields

-- a field stands twice, or in the value of one
abbrev pub fields_doubled : List FieldDoubled → Bool
fields_doubled fields = is_some (repeated (names_in fields)) || list_any (λ f. f.1) fields

-- in a literal a field stands twice where it does in its value
abbrev pub doubled_in_literal : Literal-F Bool Bool FieldDoubled → Bool
doubled_in_literal l = l.value

-- a field stands twice in an item of a list, or in an object literal; in no other value
abbrev pub doubled_in_value : LiteralValue-F Bool Bool FieldDoubled → Bool
doubled_in_value (LiteralValue-F.List items) = list_any (λ d. d) items
doubled_in_value (LiteralValue-F.Object fields) = fields_doubled fields
doubled_in_value _ = false

-- the name of a field of an object literal, with what was found of its value
abbrev pub doubled_in_field : ObjectField-F Bool Bool FieldDoubled → FieldDoubled
doubled_in_field f = (f.name.text, f.value)

-- whether a field stands twice in an object literal, at any depth
abbrev pub is_doubled : Literal → Bool
is_doubled = fold-Literal Bool Bool FieldDoubled doubled_in_value doubled_in_literal doubled_in_field

-- the same of the value of a literal
abbrev pub is_value_doubled : LiteralValue → Bool
is_value_doubled = fold-LiteralValue Bool Bool FieldDoubled doubled_in_value doubled_in_literal doubled_in_field

-- the name of a field of an object literal, and whether a field stands twice in its value, at any depth
abbrev pub field_doubled : ObjectField → FieldDoubled
field_doubled = fold-ObjectField Bool Bool FieldDoubled doubled_in_value doubled_in_literal doubled_in_field
