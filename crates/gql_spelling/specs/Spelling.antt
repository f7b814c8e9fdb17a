-- The text of tokens, one after another, as they are printed.
use Rattle.std.specs.Prelude.{◌≡◌, ℕ, ◌&&◌, Bool, true, false, if◌then◌else◌, List, [], ◌∷◌, ◌++◌, map, codes, IsUtf8}
use Rattle.gql_value.specs.Text.{quoted}
use Rattle.gql_tokens.specs.declared.token.Kind.{Kind}
use Rattle.gql_tokens.specs.declared.token.Kind.TheVariants.{Bang, Dollar, Ampersand, ParenOpen, ParenClose, Spread, Colon, Equals, At, BracketOpen, BracketClose, BraceOpen, Pipe, BraceClose, Name, Integer, String, Fault, End}
use Rattle.gql_tokens.specs.Heads.{is_last}
use Rattle.gql_tokens.specs.Names.{IsName}
use Rattle.gql_tokens.specs.Numbers.{IsInteger}
use Rattle.gql_tokens.specs.Tokens.{Token, tokens_of, string_value_of}

-- the characters of a punctuator (GraphQL October 2021, 2.1.8)
abbrev pub mark_of : Kind → List ℕ
mark_of Bang = codes "!"
mark_of Dollar = codes "$"
mark_of Ampersand = codes "&"
mark_of ParenOpen = codes "("
mark_of ParenClose = codes ")"
mark_of Spread = codes "..."
mark_of Colon = codes ":"
mark_of Equals = codes "="
mark_of At = codes "@"
mark_of BracketOpen = codes "["
mark_of BracketClose = codes "]"
mark_of BraceOpen = codes "{"
mark_of Pipe = codes "|"
mark_of BraceClose = codes "}"
mark_of _ = []

-- a text is some text in quotation marks, with the escapes of JSON (GraphQL October 2021, 2.9.4)
abbrev pub IsQuoted : List ℕ → Type 0
IsQuoted text = (value : List ℕ) × (IsUtf8 value × (text ≡ quoted value))

-- a text is that of a token of this kind, as it is printed: a string in one line
abbrev pub IsTextOf : Kind → List ℕ → Type 0
IsTextOf Name text = IsName text
IsTextOf Integer text = IsInteger text
IsTextOf String text = IsQuoted text
IsTextOf Fault text = ⊥
IsTextOf End text = ⊥
IsTextOf kind text = text ≡ mark_of kind

-- each token has a text as it is printed
abbrev pub AreSpelled : List Token → Type 0
AreSpelled [] = Unit {0}
AreSpelled (token ∷ tokens) = IsTextOf token.kind token.text × AreSpelled tokens

-- a name, an integer or a string
abbrev pub is_word : Kind → Bool
is_word Name = true
is_word Integer = true
is_word String = true
is_word _ = false

-- one space, where two words would stand side by side
abbrev pub space_before : Kind → List Token → List ℕ
space_before kind [] = []
space_before kind (token ∷ tokens) = if is_word kind && is_word token.kind then codes " " else []

-- the texts of tokens one after another, with one space between two words
abbrev pub spaced : List Token → List ℕ
spaced [] = []
spaced (token ∷ tokens) = token.text ++ (space_before token.kind tokens ++ spaced tokens)

-- an integer isn't followed by `...`, which would continue it (GraphQL October 2021, 2.9.1)
abbrev pub IsApart : Kind → List Token → Type 0
IsApart kind [] = Unit {0}
IsApart kind (next ∷ tokens) = kind ≡ Integer → next.kind ≡ Spread → ⊥

-- no integer stands directly before `...`
abbrev pub StandApart : List Token → Type 0
StandApart [] = Unit {0}
StandApart (token ∷ tokens) = IsApart token.kind tokens × StandApart tokens

-- a token without its place
abbrev pub bare : Token → Kind × List ℕ
bare token = (token.kind, token.text)

-- the printed text of tokens lexes to these tokens again, places aside
abbrev pub SpacedLexesAgain : Type 0
SpacedLexesAgain = (tokens : List Token) → AreSpelled tokens → StandApart tokens
    → map bare (tokens_of (spaced tokens)) ≡ map bare tokens ++ (End, []) ∷ []

-- a text in quotation marks means the text
abbrev pub QuotedMeansItsText : Type 0
QuotedMeansItsText = (value : List ℕ) → IsUtf8 value → string_value_of (quoted value) ≡ value

-- the text of a token as it is printed: a string in one line, all else as it stands
abbrev pub printed_text : Kind → List ℕ → List ℕ
printed_text String text = quoted (string_value_of text)
printed_text _ text = text

-- each token that isn't the last has a text that can be printed
abbrev pub ArePrintable : List Token → Type 0
ArePrintable [] = Unit {0}
ArePrintable (token ∷ tokens) =
    (is_last token.kind ≡ false → IsTextOf token.kind (printed_text token.kind token.text)) × ArePrintable tokens

-- the tokens of each text can be printed
abbrev pub TokensArePrintable : Type 0
TokensArePrintable = (text : List ℕ) → ArePrintable (tokens_of text)
