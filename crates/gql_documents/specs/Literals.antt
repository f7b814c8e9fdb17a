-- The parser of values (GraphQL October 2021, 2.9).
use Rattle.std.specs.Prelude.{Bool, List, [], ◌∷◌}
use Rattle.gql_tokens.specs.declared.token.Kind.TheVariants as kind
use Rattle.gql_model.specs.declared.literal.Literal.{Literal}
use Rattle.gql_model.specs.declared.literal.LiteralValue.{LiteralValue}
use Rattle.gql_model.specs.declared.literal.ObjectField.{ObjectField}
use Rattle.gql_model.specs.Sorts.{Sort, Mark, mark}
use Rattle.gql_model.specs.Names.{any_name}
use Rattle.gql_model.specs.Literals.{plain, variable_of, list_of, object_of, literal_of, object_field_of}
use Rattle.gql_documents.specs.Parsing.{Parser, tok, seq, via, either, many, unless, here, behind, between, nested}
use Rattle.gql_documents.specs.Names.{name}

-- what a value begins with
abbrev pub value_start : List Sort
value_start = Mark kind.BracketOpen ∷ Mark kind.BraceOpen ∷ Mark kind.Dollar ∷ Mark kind.Integer ∷ Mark kind.String ∷ Mark kind.Name ∷ []

-- IntValue | StringValue | BooleanValue | NullValue | EnumValue
unfoldable pub plain_literal : Parser LiteralValue
plain_literal = tok plain

-- ObjectField = Name ":" Value, where `inner` reads the value
unfoldable pub object_field : Parser Literal → Parser ObjectField
object_field inner = via object_field_of (seq name (behind (mark kind.Colon) inner))

-- ListValue = "[" Value* "]", where `inner` reads each value
unfoldable pub list : Parser Literal → Parser LiteralValue
list inner = via list_of (between (mark kind.BracketOpen) (mark kind.BracketClose) (many value_start inner))

-- ObjectValue = "{" ObjectField* "}", where `inner` reads the value of each field
unfoldable pub object : Parser Literal → Parser LiteralValue
object inner = via object_of (between (mark kind.BraceOpen) (mark kind.BraceClose) (many any_name (object_field inner)))

-- Variable = "$" Name
unfoldable pub variable : Parser LiteralValue
variable = via variable_of (behind (mark kind.Dollar) name)

-- ListValue where a `[` stands, ObjectValue at a `{`, Variable at a `$`, which a constant refuses, else a value of one token
unfoldable pub literal_value : Bool → Parser Literal → Parser LiteralValue
literal_value constant inner =
    either (mark kind.BracketOpen) (list inner) (either (mark kind.BraceOpen) (object inner) (either (mark kind.Dollar) (unless constant variable) plain_literal))

-- Value, with the place of its first token, where `inner` reads the values in it
unfoldable pub value_over : Bool → Parser Literal → Parser Literal
value_over constant inner = here (λ place. via (literal_of place) (literal_value constant inner))

-- Value, with lists and objects nested to any depth; where `constant` is true, no variable stands anywhere in it
unfoldable pub value : Bool → Parser Literal
value constant = nested (value_over constant)
