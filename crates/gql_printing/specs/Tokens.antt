-- The tokens that trees are written as, and lists of them.
use Rattle.std.specs.Prelude.{ℕ, List, [], ◌∷◌, ◌++◌, Option, Some, None, map}
use Rattle.gql_value.specs.Text.{quoted}
use Rattle.gql_tokens.specs.Tokens.{Token}
use Rattle.gql_tokens.specs.Places.{first_place}
use Rattle.gql_tokens.specs.declared.token.Kind.{Kind}
use Rattle.gql_tokens.specs.declared.token.Kind.TheVariants as kind
use Rattle.gql_spelling.specs.Spelling.{mark_of}
use Rattle.gql_model.specs.declared.name.Name.{Name}

-- what a tree is written as
abbrev pub Toks : Type 0
Toks = List Token

-- a token that is written; its place counts for nothing
abbrev pub token : Kind → List ℕ → Token
token k text = record { kind = k; text = text; place = first_place }

-- a punctuator (GraphQL October 2021, 2.1.8)
abbrev pub punctuator : Kind → Token
punctuator k = token k (mark_of k)

-- a name or a keyword (2.1.9)
abbrev pub word : List ℕ → Token
word text = token kind.Name text

-- a text as a string in one line (2.9.4)
abbrev pub string : List ℕ → Token
string value = token kind.String (quoted value)

-- one after another
abbrev pub joined : List (List Token) → List Token
joined [] = []
joined (tokens ∷ more) = tokens ++ joined more

-- a part that may be left out
abbrev pub optional : {A : Type 0} → (A → List Token) → Option A → List Token
optional tokens None = []
optional tokens (Some a) = tokens a

-- items one after another between two punctuators, or nothing where there are none
abbrev pub grouped : {A : Type 0} → Kind → Kind → (A → List Token) → List A → List Token
grouped left right tokens [] = []
grouped left right tokens (a ∷ all) = punctuator left ∷ (joined (map tokens (a ∷ all)) ++ punctuator right ∷ [])

-- a name behind a punctuator
abbrev pub behind : Kind → Name → List Token
behind k name = punctuator k ∷ word name.text ∷ []

-- names with a punctuator between each two
abbrev pub listed : Kind → List Name → List Token
listed k [] = []
listed k (name ∷ names) = word name.text ∷ joined (map (behind k) names)
