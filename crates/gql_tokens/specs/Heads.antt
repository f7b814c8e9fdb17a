-- The first token of what is left of a text.
use Rattle.std.specs.Prelude.{◌≡◌, ℕ, ◌≤◌, Bool, true, false, List, [], ◌∷◌, length, take, drop, unwrap_or}
use Rattle.gql_tokens.specs.declared.token.Place.{Place}
use Rattle.gql_tokens.specs.declared.token.Kind.{Kind}
use Rattle.gql_tokens.specs.declared.token.Kind.TheVariants.{Fault, End}
use Rattle.gql_tokens.specs.declared.heads.Head.{Head}
use Rattle.gql_tokens.specs.Places.{place_after}
use Rattle.gql_tokens.specs.Lexemes.{ignored_len, token_at}
use Rattle.gql_tokens.specs.Tokens.{Token, tokens_from}
use Rattle.gql_tokens.specs.Readings.{HasRoom}

-- no token stands behind one of this kind
abbrev pub is_last : Kind → Bool
is_last Fault = true
is_last End = true
is_last _ = false

-- the kind and the length of the first token of a text that begins with nothing ignored
abbrev pub head_of : List ℕ → Kind × ℕ
head_of [] = (End, 0)
head_of (b ∷ rest) = unwrap_or (token_at (b ∷ rest)) (Fault, 0)

-- the tokens of a text from a head on
abbrev pub tokens_at : Head → List Token
tokens_at head = tokens_from head.place head.rest.now

-- the token of a head
abbrev pub token_of : Head → Token
token_of head = record { kind = head.kind; text = take head.len head.rest.now; place = head.place }

-- the rest begins with the head's token, and rows and columns have room
pub record IsHead (head : Head) : Type 0 where
  pub begins : ignored_len head.rest.now ≡ 0
  pub is : head_of head.rest.now ≡ (head.kind, head.len)
  pub within : head.len ≤ length head.rest.now
  pub room : HasRoom head.place head.rest.now

-- what is left of a text begins behind so many bytes, at this place
pub record IsBehind (start : Place) (text : List ℕ) (taken : ℕ) (place : Place) (rest : List ℕ) : Type 0 where
  pub within : taken ≤ length text
  pub rest_is : rest ≡ drop taken text
  pub place_is : place ≡ place_after taken start text
