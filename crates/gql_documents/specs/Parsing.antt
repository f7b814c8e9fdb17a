-- Parsers: each follows a rule of the grammar, and looks at one token to choose.
use Rattle.std.specs.Prelude.{◌≡◌, ℕ, zero, suc, Bool, if◌then◌else◌, List, [], ◌∷◌, ◌++◌, length, Option, Some, None, is_some, Result, Ok, Err}
use Rattle.gql_tokens.specs.Tokens.{Token}
use Rattle.gql_tokens.specs.declared.token.Place.{Place}
use Rattle.gql_model.specs.Sorts.{Sort, starts}
use Rattle.gql_model.specs.Rules.{the, last, former, cons, or_none, place_of}
use Rattle.gql_documents.specs.declared.error.ParseError.{ParseError}
use Rattle.gql_documents.specs.declared.error.ParseError.TheVariants.{Memory, Syntax}

-- what was read and the tokens left behind it, or the tokens left at the fault
pub data Outcome (A : Type 0) : Type 0 where
  Done : (a : A) (rest : List Token) → Outcome A
  Fail : (rest : List Token) → Outcome A

-- what reads a part from the front of a list of tokens
abbrev pub Parser : Type 0 → Type 0
Parser A = List Token → Outcome A

-- goes on behind what was read, knowing it; a fault stays where it is
abbrev pub and_then : {A B : Type 0} → Outcome A → (A → Parser B) → Outcome B
and_then (Done a rest) f = f a rest
and_then (Fail rest) f = Fail rest

-- the value that this token has, and the tokens behind it; where it has none, the fault is at this token
abbrev pub taken : {A : Type 0} → Option A → Token → Parser A
taken (Some a) x rest = Done a rest
taken None x rest = Fail (x ∷ rest)

-- one token that has a value
unfoldable pub tok : {A : Type 0} → (Token → Option A) → Parser A
tok value [] = Fail []
tok value (x ∷ rest) = taken (value x) x rest

-- the value of the first token
abbrev pub first_value : {A : Type 0} → (Token → Option A) → List Token → Option A
first_value value [] = None
first_value value (x ∷ rest) = value x

-- one token of these sorts
unfoldable pub token : List Sort → Parser (Unit {0})
token sorts = tok (the sorts)

-- one part and then another
unfoldable pub seq : {A B : Type 0} → Parser A → Parser B → Parser (A × B)
seq p q = λ ts. and_then (p ts) (λ a mid. and_then (q mid) (λ b rest. Done (a, b) rest))

-- what is made of a part
unfoldable pub via : {A C : Type 0} → (A → C) → Parser A → Parser C
via f p = λ ts. and_then (p ts) (λ a rest. Done (f a) rest)

-- a part that may be left out: it is there where the first token is of these sorts
unfoldable pub opt : {A : Type 0} → List Sort → Parser A → Parser (Option A)
opt enter p = λ ts. if starts enter ts then via Some p ts else Done None ts

-- one part where the first token is of these sorts, else another
unfoldable pub either : {A : Type 0} → List Sort → Parser A → Parser A → Parser A
either enter p q = λ ts. if starts enter ts then p ts else q ts

-- parts one after another as long as a token of these sorts follows, but no more than so many
unfoldable pub many_from : {A : Type 0} → ℕ → List Sort → Parser A → Parser (List A)
many_from zero enter p = λ ts. Done [] ts
many_from (suc n) enter p = λ ts. if starts enter ts then and_then (p ts) (λ a mid. and_then (many_from n enter p mid) (λ all rest. Done (a ∷ all) rest)) else Done [] ts

-- parts one after another as long as a token of these sorts follows, but no more than there are tokens
unfoldable pub many : {A : Type 0} → List Sort → Parser A → Parser (List A)
many enter p = λ ts. many_from (length ts) enter p ts

-- these, and then what was read
abbrev pub onto : {A : Type 0} → List A → Outcome (List A) → Outcome (List A)
onto front o = and_then o (λ more rest. Done (front ++ more) rest)

-- a fault at the first token, whatever it is
unfoldable pub refuse : {A : Type 0} → Parser A
refuse ts = Fail ts

-- the part; where the flag is set, a fault at the first token
unfoldable pub unless : {A : Type 0} → Bool → Parser A → Parser A
unless flag p = λ ts. if flag then Fail ts else p ts

-- a part that knows where its first token stands
unfoldable pub here : {A : Type 0} → (Place → Parser A) → Parser A
here p = λ ts. p (place_of ts) ts

-- a parser over itself, to this depth
unfoldable pub depth : {A : Type 0} → (Parser A → Parser A) → ℕ → Parser A
depth f zero = refuse
depth f (suc n) = f (depth f n)

-- a parser over itself; nothing nests deeper than it has tokens
unfoldable pub nested : {A : Type 0} → (Parser A → Parser A) → Parser A
nested f ts = depth f (suc (length ts)) ts

-- what stands behind a token of these sorts
unfoldable pub behind : {A : Type 0} → List Sort → Parser A → Parser A
behind sorts p = via last (seq (token sorts) p)

-- what stands before a token of these sorts
unfoldable pub before : {A : Type 0} → List Sort → Parser A → Parser A
before sorts p = via former (seq p (token sorts))

-- what stands between two tokens, each of its sorts
unfoldable pub between : {A : Type 0} → List Sort → List Sort → Parser A → Parser A
between left right p = behind left (before right p)

-- one part or more, where each but the first begins with a token of these sorts
unfoldable pub more : {A : Type 0} → List Sort → Parser A → Parser (List A)
more enter p = via cons (seq p (many enter p))

-- a list that may be left out: it is there where the first token is of these sorts
unfoldable pub perhaps : {A : Type 0} → List Sort → Parser (List A) → Parser (List A)
perhaps enter p = via or_none (opt enter p)

-- whether a token of these sorts stands there; one that does is taken
unfoldable pub whether : List Sort → Parser Bool
whether sorts = via is_some (opt sorts (token sorts))

-- what a function that parses ensures: the parser's outcome, unless memory runs out
abbrev pub Reads : {A : Type 0} → Outcome A → Result A ParseError → List Token → Type 0
Reads outcome (Ok a) new = outcome ≡ Done a new
Reads outcome (Err Memory) new = Unit {0}
Reads outcome (Err Syntax) new = outcome ≡ Fail new
