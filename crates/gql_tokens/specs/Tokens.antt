-- The tokens of a text (GraphQL October 2021, 2.1.6).
use Rattle.std.specs.Prelude.{◌≡◌, ℕ, ℤ, zero, suc, ◌-◌, ◌<◌, ◌≤◌, ◌==◌, if◌then◌else◌, Option, Some, None, List, [], ◌∷◌, ◌++◌, length, take, drop, map, slice_range, ⊤}
use Rattle.gql_tokens.specs.declared.token.Place.{Place}
use Rattle.gql_tokens.specs.declared.token.Kind.{Kind}
use Rattle.gql_tokens.specs.declared.token.Kind.TheVariants.{Fault, End}
use Rattle.gql_tokens.specs.declared.token.Token.{Token as Span}
use Rattle.gql_tokens.specs.declared.error.SyntaxError.{SyntaxError}
use Rattle.gql_tokens.specs.declared.error.SyntaxError.TheVariants.{Memory, Syntax}
use Rattle.gql_tokens.specs.Characters.{begins_with}
use Rattle.gql_tokens.specs.Runs.{run}
use Rattle.gql_tokens.specs.Strings.{string_character}
use Rattle.gql_tokens.specs.Blocks.{block_mark, block_character, block_value_of}
use Rattle.gql_tokens.specs.Numbers as numbers
use Rattle.gql_tokens.specs.Places.{first_place, place_behind, place_in}
use Rattle.gql_tokens.specs.Lexemes.{ignored_len, token_at}

-- a token: its kind, its text and the place of its first character
pub record Token : Type 0 where
  pub kind : Kind
  pub text : List ℕ
  pub place : Place

-- the end of a text, as a last token
abbrev pub end_at : Place → Token
end_at place = record { kind = End; text = []; place = place }

-- the first lexical fault, as a last token
abbrev pub fault_at : Place → Token
fault_at place = record { kind = Fault; text = []; place = place }

-- a token at the front, and those that follow behind its bytes; or a fault, where no token begins
abbrev pub taken : (ℕ → List Token) → Place → List ℕ → Option (Kind × ℕ) → List Token
taken others place text None = fault_at place ∷ []
taken others place text (Some token) = record { kind = token.0; text = take token.1 text; place = place } ∷ others (token.1 - 1)

-- what is ignored at the front gives nothing; else a token or a fault stands there
abbrev pub lexed : (ℕ → List Token) → Place → List ℕ → List Token
lexed others place text =
    if ignored_len text == 0 then taken others place text (token_at text) else others (ignored_len text - 1)

-- the tokens of a text at a place, whose first bytes, so many, belong to what was taken or ignored before
abbrev pub tokens_behind : ℕ → Place → List ℕ → List Token
tokens_behind left place [] = end_at place ∷ []
tokens_behind (suc left) place (b ∷ rest) = tokens_behind left (place_behind place b rest) rest
tokens_behind zero place (b ∷ rest) = lexed (λ left. tokens_behind left (place_behind place b rest) rest) place (b ∷ rest)

-- the tokens of a text that begins at a place
abbrev pub tokens_from : Place → List ℕ → List Token
tokens_from place text = tokens_behind 0 place text

-- all tokens of a text; the last is its first lexical fault, or its end
abbrev pub tokens_of : List ℕ → List Token
tokens_of text = tokens_from first_place text

-- what the text of a string or block string means (2.9.4)
abbrev pub string_value_of : List ℕ → List ℕ
string_value_of text =
    if begins_with block_mark text then block_value_of (run block_character (drop 3 text)).0
    else (run string_character (drop 1 text)).0

-- the number that the text of an integer spells (2.9.1)
abbrev pub integer_value_of : List ℕ → ℤ
integer_value_of text = numbers.integer_value_of text

-- the token that a span is in its text
abbrev pub seen : List ℕ → Span → Token
seen text span = record { kind = span.kind; text = slice_range text span.start span.end; place = span.place }

-- the spans follow one another from a byte on, each holds a byte at least, and they end before a byte
abbrev pub AreInOrder : ℕ → ℕ → List Span → Type 0
AreInOrder first last [] = first ≤ last
AreInOrder first last (span ∷ spans) = (first ≤ span.start) × ((span.start < span.end) × AreInOrder span.end last spans)

-- these spans are all tokens of the text, and it has no lexical fault
abbrev pub AreTokens : List ℕ → List Span → Type 0
AreTokens text spans = tokens_of text ≡ map (seen text) spans ++ end_at (place_in text (length text)) ∷ []

-- the first lexical fault of the text stands where the error says
abbrev pub IsAtFault : List ℕ → SyntaxError → Type 0
IsAtFault text Memory = ⊤
IsAtFault text (Syntax row column) =
    (before : List Token) × (tokens_of text ≡ before ++ fault_at (record { row = row; column = column }) ∷ [])
