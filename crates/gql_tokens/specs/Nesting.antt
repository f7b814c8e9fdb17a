-- How deep brackets nest in a text.
use Rattle.std.specs.Prelude.{ℕ, ◌+◌, ◌-◌, max, List, [], ◌∷◌}
use Rattle.gql_tokens.specs.declared.token.Kind.{Kind}
use Rattle.gql_tokens.specs.declared.token.Kind.TheVariants.{ParenOpen, ParenClose, BracketOpen, BracketClose, BraceOpen, BraceClose}
use Rattle.gql_tokens.specs.Tokens.{Token, tokens_of}

-- how many brackets are open behind a token, where so many were open before it; what closes nothing counts nothing
abbrev pub open_behind : Kind → ℕ → ℕ
open_behind ParenOpen open_brackets = open_brackets + 1
open_behind BracketOpen open_brackets = open_brackets + 1
open_behind BraceOpen open_brackets = open_brackets + 1
open_behind ParenClose open_brackets = open_brackets - 1
open_behind BracketClose open_brackets = open_brackets - 1
open_behind BraceClose open_brackets = open_brackets - 1
open_behind _ open_brackets = open_brackets

-- the most brackets that are ever open in these tokens, where so many are open before them
abbrev pub most_open : ℕ → List Token → ℕ
most_open open_brackets [] = open_brackets
most_open open_brackets (token ∷ tokens) = max open_brackets (most_open (open_behind token.kind open_brackets) tokens)

-- the greatest number of unclosed brackets before the first lexical fault or the end
abbrev pub nesting_of : List ℕ → ℕ
nesting_of text = most_open 0 (tokens_of text)
