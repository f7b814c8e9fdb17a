-- The tokens of a text and what is ignored between them make up the text.
use Rattle.std.specs.Prelude.{◌≡◌, ◌<◌, ℕ, MatchBool, List, [], ◌∷◌, ◌++◌, length}
use Rattle.gql_tokens.specs.declared.token.Place.{Place}
use Rattle.gql_tokens.specs.Places.{first_place, place_after}
use Rattle.gql_tokens.specs.Lexemes.{ignored_len}
use Rattle.gql_tokens.specs.Tokens.{Token, tokens_of}
use Rattle.gql_tokens.specs.Heads.{is_last}

-- stretches put together
abbrev pub together : List (List ℕ) → List ℕ
together [] = []
together (stretch ∷ stretches) = stretch ++ together stretches

-- each of these stretches before a rest is ignored, and is a byte at least
abbrev pub AreIgnored : List (List ℕ) → List ℕ → Type 0
AreIgnored [] rest = Unit {0}
AreIgnored (stretch ∷ stretches) rest =
    (ignored_len (stretch ++ (together stretches ++ rest)) ≡ length stretch) × ((0 < length stretch) × AreIgnored stretches rest)

-- a token stands behind ignored stretches, at the place behind them, before a rest
pub record StandsIn (place : Place) (text : List ℕ) (token : Token) (rest : List ℕ) : Type 0 where
  pub stretches : List (List ℕ)
  pub text_is : text ≡ together stretches ++ (token.text ++ rest)
  pub ignored : AreIgnored stretches (token.text ++ rest)
  pub place_is : token.place ≡ place_after (length (together stretches)) place text

-- the tokens stand in the text one after another, only what is ignored stands between them, and nothing behind the last
abbrev pub MakeUp : Place → List ℕ → List Token → Type 0
MakeUp place text [] = ⊥
MakeUp place text (token ∷ tokens) =
    (rest : List ℕ) × (StandsIn place text token rest
    × MatchBool (is_last token.kind) (tokens ≡ [])
    (MakeUp (place_after (length token.text) token.place (token.text ++ rest)) rest tokens))

-- the tokens of each text make it up
abbrev pub TokensMakeUpTexts : Type 0
TokensMakeUpTexts = (text : List ℕ) → MakeUp first_place text (tokens_of text)
