-- The tokens of values (GraphQL October 2021, 2.9).
use Rattle.std.specs.Prelude.{ℕ, Bool, true, false, List, [], ◌∷◌, ◌++◌, codes}
use Rattle.gql_tokens.specs.Tokens.{Token}
use Rattle.gql_tokens.specs.declared.token.Kind.TheVariants as kind
use Rattle.gql_model.specs.declared.literal.Literal.{Literal}
use Rattle.gql_model.specs.declared.literal.LiteralValue.{LiteralValue}
use Rattle.gql_model.specs.declared.literal.ObjectField.{ObjectField}
use Rattle.gql_model.specs.declared.literal.LiteralValue.TheOpen.{Literal-F, LiteralValue-F, ObjectField-F}
use Rattle.gql_model.specs.declared.literal.LiteralValue.TheFolds.{fold-Literal, fold-LiteralValue, fold-ObjectField}
use Rattle.gql_printing.specs.Tokens.{token, punctuator, word, string, joined}

-- the keyword of a truth value (2.9.3)
abbrev pub boolean_word : Bool → List ℕ
boolean_word true = codes "true"
boolean_word false = codes "false"

-- a variable (2.10)
abbrev pub variable_tokens : List ℕ → List Token
variable_tokens name = punctuator kind.Dollar ∷ word name ∷ []

-- a list, where each value is its tokens already (2.9.7)
abbrev pub list_tokens : List (List Token) → List Token
list_tokens values = punctuator kind.BracketOpen ∷ (joined values ++ punctuator kind.BracketClose ∷ [])

-- an object, where each field is its tokens already (2.9.8)
abbrev pub object_tokens : List (List Token) → List Token
object_tokens fields = punctuator kind.BraceOpen ∷ (joined fields ++ punctuator kind.BraceClose ∷ [])

-- one level, where each value inside is its tokens already; an integer as it was written, a string by its value
abbrev pub value_step : LiteralValue-F (List Token) (List Token) (List Token) → List Token
value_step (LiteralValue-F.Variable name) = variable_tokens name
value_step (LiteralValue-F.Integer text number) = token kind.Integer text ∷ []
value_step (LiteralValue-F.String value) = string value ∷ []
value_step (LiteralValue-F.Boolean b) = word (boolean_word b) ∷ []
value_step LiteralValue-F.Null = word (codes "null") ∷ []
value_step (LiteralValue-F.Enum name) = word name ∷ []
value_step (LiteralValue-F.List values) = list_tokens values
value_step (LiteralValue-F.Object fields) = object_tokens fields

-- a value in its place
abbrev pub literal_step : Literal-F (List Token) (List Token) (List Token) → List Token
literal_step l = l.value

-- a name and its value (2.9.8)
abbrev pub field_step : ObjectField-F (List Token) (List Token) (List Token) → List Token
field_step f = word f.name.text ∷ punctuator kind.Colon ∷ f.value

-- the tokens of a value
abbrev pub literal_tokens : Literal → List Token
literal_tokens = fold-Literal (List Token) (List Token) (List Token) value_step literal_step field_step

-- the tokens of a value without its place
abbrev pub value_tokens : LiteralValue → List Token
value_tokens = fold-LiteralValue (List Token) (List Token) (List Token) value_step literal_step field_step

-- the tokens of a field of an object
abbrev pub object_field_tokens : ObjectField → List Token
object_field_tokens = fold-ObjectField (List Token) (List Token) (List Token) value_step literal_step field_step
