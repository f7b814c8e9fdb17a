-- How far a text has been written.
use Rattle.std.specs.Prelude.{ℕ, Bool, false, ◌&&◌, if◌then◌else◌, List, [], ◌∷◌, ◌++◌, codes}
use Rattle.gql_tokens.specs.Tokens.{Token}
use Rattle.gql_tokens.specs.declared.token.Kind.{Kind}
use Rattle.gql_spelling.specs.Spelling.{is_word}

-- the text so far, and whether a word stands at its end
abbrev pub Progress : Type 0
Progress = List ℕ × Bool

-- nothing is written
abbrev pub begun : Progress
begun = ([], false)

-- the space before a token of this kind, which follows a word or not
abbrev pub space_for : Bool → Kind → List ℕ
space_for after_word kind = if after_word && is_word kind then codes " " else []

-- one more token is written
unfoldable pub after : Progress → Token → Progress
after p token = (p.0 ++ (space_for p.1 token.kind ++ token.text), is_word token.kind)

-- these tokens more are written
abbrev pub written : Progress → List Token → Progress
written p [] = p
written p (token ∷ tokens) = written (after p token) tokens
