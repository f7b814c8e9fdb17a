-- Sorts of tokens: what a production may begin with, or be followed by.
use Rattle.std.specs.Prelude.{ℕ, Bool, false, not, ◌&&◌, ◌||◌, List, [], ◌∷◌, nat_eq, bytes_eq}
use Rattle.gql_tokens.specs.Tokens.{Token}
use Rattle.gql_tokens.specs.declared.token.Kind.{Kind}
use Rattle.gql_tokens.specs.declared.token.Kind.TheVariants as kind

-- the number of a kind, in the order of their declaration
abbrev pub rank : Kind → ℕ
rank kind.Bang = 0
rank kind.Dollar = 1
rank kind.Ampersand = 2
rank kind.ParenOpen = 3
rank kind.ParenClose = 4
rank kind.Spread = 5
rank kind.Colon = 6
rank kind.Equals = 7
rank kind.At = 8
rank kind.BracketOpen = 9
rank kind.BracketClose = 10
rank kind.BraceOpen = 11
rank kind.Pipe = 12
rank kind.BraceClose = 13
rank kind.Name = 14
rank kind.Integer = 15
rank kind.String = 16
rank kind.Fault = 17
rank kind.End = 18

-- the token has this kind
abbrev pub has_kind : Kind → Token → Bool
has_kind k x = nat_eq (rank x.kind) (rank k)

-- one of these words is this text
abbrev pub is_among : List (List ℕ) → List ℕ → Bool
is_among [] text = false
is_among (word ∷ words) text = bytes_eq text word || is_among words text

-- Any token of a kind, the name that is this word, or any name that is none of these words.
pub data Sort : Type 0 where
  Mark : (k : Kind) → Sort
  Word : (word : List ℕ) → Sort
  Unlike : (words : List (List ℕ)) → Sort

-- the token is of this sort: it has the kind, or is the name that is the word, or is a name that is none of the words
abbrev pub is_of : Sort → Token → Bool
is_of (Mark k) x = has_kind k x
is_of (Word word) x = has_kind kind.Name x && bytes_eq x.text word
is_of (Unlike words) x = has_kind kind.Name x && not (is_among words x.text)

-- the token is of one of the sorts
abbrev pub is_in : List Sort → Token → Bool
is_in [] x = false
is_in (s ∷ sorts) x = is_of s x || is_in sorts x

-- the first token is of one of the sorts
abbrev pub starts : List Sort → List Token → Bool
starts sorts [] = false
starts sorts (x ∷ rest) = is_in sorts x

-- one sort alone: any token of this kind
abbrev pub mark : Kind → List Sort
mark k = Mark k ∷ []

-- one sort alone: the name that is this text
abbrev pub word : List ℕ → List Sort
word text = Word text ∷ []
