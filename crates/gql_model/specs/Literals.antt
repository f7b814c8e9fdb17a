-- Values (GraphQL October 2021, 2.9).
use Rattle.std.specs.Prelude.{ℕ, Bool, true, false, List, Option, Some, None, if◌then◌else◌, codes, bytes_eq}
use Rattle.gql_tokens.specs.Tokens.{Token, string_value_of, integer_value_of}
use Rattle.gql_tokens.specs.declared.token.Kind.{Kind}
use Rattle.gql_tokens.specs.declared.token.Kind.TheVariants as kind
use Rattle.gql_tokens.specs.declared.token.Place.{Place}
use Rattle.gql_model.specs.declared.name.Name.{Name}
use Rattle.gql_model.specs.declared.literal.Literal.{Literal, roll-Literal}
use Rattle.gql_model.specs.declared.literal.LiteralValue.{LiteralValue, roll-LiteralValue}
use Rattle.gql_model.specs.declared.literal.LiteralValue.TheOpen.{LiteralValue-F}
use Rattle.gql_model.specs.declared.literal.ObjectField.{ObjectField, roll-ObjectField}
use Rattle.gql_model.specs.Sorts.{mark}
use Rattle.gql_model.specs.Rules.{Rule, One, Seq, Many, Made, Either, Unless, Here, Behind, Between, Nested}
use Rattle.gql_model.specs.Names.{NameRule}

-- ---- the values of one token

-- the variable of this name, without its `$` (2.10)
abbrev pub variable_of : Name → LiteralValue
variable_of name = roll-LiteralValue (LiteralValue-F.Variable name.text)

-- the integer that a token with this text is: its text, and the number that it spells (2.9.1)
abbrev pub integer_of : List ℕ → LiteralValue
integer_of text = roll-LiteralValue (LiteralValue-F.Integer text (integer_value_of text))

-- the string that a token with this text is: what the string or block string means (2.9.4)
abbrev pub string_of : List ℕ → LiteralValue
string_of text = roll-LiteralValue (LiteralValue-F.String (string_value_of text))

-- `true` or `false` as a value (2.9.3)
abbrev pub boolean_of : Bool → LiteralValue
boolean_of b = roll-LiteralValue (LiteralValue-F.Boolean b)

-- `null` as a value (2.9.5)
abbrev pub null : LiteralValue
null = roll-LiteralValue LiteralValue-F.Null

-- the enum value of this name (2.9.6)
abbrev pub enum_of : List ℕ → LiteralValue
enum_of text = roll-LiteralValue (LiteralValue-F.Enum text)

-- BooleanValue, NullValue, EnumValue: what a name means in the place of a value
abbrev pub named_value : List ℕ → LiteralValue
named_value text =
    if bytes_eq text (codes "true") then boolean_of true else (
    if bytes_eq text (codes "false") then boolean_of false else (
    if bytes_eq text (codes "null") then null else enum_of text))

-- the value that a token of this kind and text is
abbrev pub plain_value : Kind → List ℕ → Option LiteralValue
plain_value kind.Integer text = Some (integer_of text)
plain_value kind.String text = Some (string_of text)
plain_value kind.Name text = Some (named_value text)
plain_value _ text = None

-- the value that a token is by itself: an integer, a string or a name has one, any other token has none
abbrev pub plain : Token → Option LiteralValue
plain x = plain_value x.kind x.text

-- IntValue | StringValue | BooleanValue | NullValue | EnumValue
abbrev pub PlainRule : Rule LiteralValue
PlainRule = One plain

-- ---- values in values

-- these values in order, as a list value (2.9.7)
abbrev pub list_of : List Literal → LiteralValue
list_of values = roll-LiteralValue (LiteralValue-F.List values)

-- these fields in order, as an input object value (2.9.8)
abbrev pub object_of : List ObjectField → LiteralValue
object_of fields = roll-LiteralValue (LiteralValue-F.Object fields)

-- a value with the place where it begins
abbrev pub literal_of : Place → LiteralValue → Literal
literal_of place value = roll-Literal (record { place = place; value = value })

-- a field of an input object value: its name and its value (2.9.8)
abbrev pub object_field_of : Name × Literal → ObjectField
object_field_of p = roll-ObjectField (record { name = p.0; value = p.1 })

-- ObjectField = Name ":" Value
abbrev pub ObjectFieldRule : Rule Literal → Rule ObjectField
ObjectFieldRule Inner = Made object_field_of (Seq NameRule (Behind (mark kind.Colon) Inner))

-- ListValue = "[" Value* "]"
abbrev pub ListRule : Rule Literal → Rule LiteralValue
ListRule Inner = Made list_of (Between (mark kind.BracketOpen) (mark kind.BracketClose) (Many Inner))

-- ObjectValue = "{" ObjectField* "}"
abbrev pub ObjectRule : Rule Literal → Rule LiteralValue
ObjectRule Inner = Made object_of (Between (mark kind.BraceOpen) (mark kind.BraceClose) (Many (ObjectFieldRule Inner)))

-- Variable = "$" Name
abbrev pub VariableRule : Rule LiteralValue
VariableRule = Made variable_of (Behind (mark kind.Dollar) NameRule)

-- Value = Variable | PlainValue | ListValue | ObjectValue, where a constant has no variable in it
abbrev pub ValueOver : Bool → Rule Literal → Rule Literal
ValueOver constant Inner =
    Here (λ place. Made (literal_of place) (Either (ListRule Inner) (Either (ObjectRule Inner) (Either (Unless constant VariableRule) PlainRule))))

-- Value, with lists and objects nested to any depth; where `constant` is true, no variable stands anywhere in it
abbrev pub ValueRule : Bool → Rule Literal
ValueRule constant = Nested (ValueOver constant)
