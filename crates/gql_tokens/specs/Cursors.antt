-- The tokens that are left, as a cursor shows them.
use Rattle.std.specs.Prelude.{ℕ, List, [], ◌∷◌}
use Rattle.gql_tokens.specs.declared.token.Place.{Place}
use Rattle.gql_tokens.specs.declared.token.Kind.{Kind}
use Rattle.gql_tokens.specs.declared.token.Kind.TheVariants.{End}
use Rattle.gql_tokens.specs.Places as places
use Rattle.gql_tokens.specs.Tokens.{Token}

-- the kind of the first token; the tokens left of a text are never none
abbrev pub first_kind : List Token → Kind
first_kind [] = End
first_kind (token ∷ tokens) = token.kind

-- its text
abbrev pub first_text : List Token → List ℕ
first_text [] = []
first_text (token ∷ tokens) = token.text

-- its place
abbrev pub first_place : List Token → Place
first_place [] = places.first_place
first_place (token ∷ tokens) = token.place

-- the tokens behind the first
abbrev pub tokens_behind_first : List Token → List Token
tokens_behind_first [] = []
tokens_behind_first (token ∷ tokens) = tokens
