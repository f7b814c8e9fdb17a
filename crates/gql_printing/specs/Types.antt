-- The tokens of types (GraphQL October 2021, 2.11).
use Rattle.std.specs.Prelude.{Bool, true, false, List, [], ◌∷◌, ◌++◌}
use Rattle.gql_tokens.specs.Tokens.{Token}
use Rattle.gql_tokens.specs.declared.token.Kind.TheVariants as kind
use Rattle.gql_model.specs.declared.type_ref.TypeRef.{TypeRef, fold-TypeRef}
use Rattle.gql_model.specs.declared.type_ref.TypeRef.TheOpen.{TypeRef-F}
use Rattle.gql_printing.specs.Tokens.{punctuator, word}

-- the mark of a type without null (2.11, Non-Null Type)
abbrev pub bang_tokens : Bool → List Token
bang_tokens true = punctuator kind.Bang ∷ []
bang_tokens false = []

-- a list type, where the type inside is its tokens already
abbrev pub list_type_tokens : List Token → Bool → List Token
list_type_tokens inner bang = punctuator kind.BracketOpen ∷ (inner ++ (punctuator kind.BracketClose ∷ bang_tokens bang))

-- one level, where the type inside is its tokens already
abbrev pub type_step : TypeRef-F (List Token) → List Token
type_step (TypeRef-F.Named name bang) = word name ∷ bang_tokens bang
type_step (TypeRef-F.List inner bang) = list_type_tokens inner bang

-- the tokens of a type
abbrev pub type_tokens : TypeRef → List Token
type_tokens = fold-TypeRef (List Token) type_step
