-- Rules of a grammar: a rule says which tokens derive which tree.
use Rattle.std.specs.Prelude.{◌≡◌, ℕ, zero, suc, ◌⊎◌, Bool, true, false, List, [], ◌∷◌, ◌++◌, Option, Some, None, is_some}
use Rattle.gql_tokens.specs.Tokens.{Token}
use Rattle.gql_tokens.specs.Cursors.{first_place}
use Rattle.gql_tokens.specs.declared.token.Place.{Place}
use Rattle.gql_model.specs.Sorts.{Sort, is_in, starts}

-- which lists of tokens derive which trees of this type
abbrev pub Rule : Type 0 → Type 1
Rule A = List Token → A → Type 0

-- one token that has a value
abbrev pub One : {A : Type 0} → (Token → Option A) → Rule A
One value front a = (x : Token) × (front ≡ x ∷ []) × (value x ≡ Some a)

-- the value that tells nothing where the flag is true, and none where it is false
abbrev pub unit_if : Bool → Option (Unit {0})
unit_if true = Some tt
unit_if false = None

-- a token of one of these sorts has the value that tells nothing; any other has none
abbrev pub the : List Sort → Token → Option (Unit {0})
the sorts x = unit_if (is_in sorts x)

-- one token of these sorts
abbrev pub The : List Sort → Rule (Unit {0})
The sorts = One (the sorts)

-- one part and then another
pub record Seq {A B : Type 0} (R : Rule A) (S : Rule B) (front : List Token) (pair : A × B) : Type 0 where
  pub before : List Token
  pub after : List Token
  pub whole : front ≡ before ++ after
  pub first : R before pair.0
  pub second : S after pair.1

-- a part or nothing
abbrev pub Opt : {A : Type 0} → Rule A → Rule (Option A)
Opt R front None = front ≡ []
Opt R front (Some a) = R front a

-- any number of parts
abbrev pub Many : {A : Type 0} → Rule A → Rule (List A)
Many R front [] = front ≡ []
Many R front (a ∷ all) = (before : List Token) × (after : List Token) × (front ≡ before ++ after) × R before a × Many R after all

-- what is made of a part
pub record Made {A C : Type 0} (f : A → C) (R : Rule A) (front : List Token) (c : C) : Type 0 where
  pub of : A
  pub is : f of ≡ c
  pub rule : R front of

-- one part or another
abbrev pub Either : {A : Type 0} → Rule A → Rule A → Rule A
Either R S front a = R front a ⊎ S front a

-- the part, where the flag isn't set
abbrev pub Unless : {A : Type 0} → Bool → Rule A → Rule A
Unless flag R front a = (flag ≡ false) × R front a

-- where the first token stands
abbrev pub place_of : List Token → Place
place_of = first_place

-- a part that knows where its first token stands
abbrev pub Here : {A : Type 0} → (Place → Rule A) → Rule A
Here R front a = R (place_of front) front a

-- any number of parts, none of which could go on where the next begins
abbrev pub Touch : {A : Type 0} → Rule A → (A → List Sort) → Rule (List A)
Touch R goes front [] = front ≡ []
Touch R goes front (a ∷ all) = (before : List Token) × (after : List Token) × (front ≡ before ++ after) × R before a × (starts (goes a) after ≡ false) × Touch R goes after all

-- a rule over itself, to this depth
abbrev pub Depth : {A : Type 0} → (Rule A → Rule A) → ℕ → Rule A
Depth F zero front a = ⊥
Depth F (suc n) front a = F (Depth F n) front a

-- a rule over itself, to some depth
abbrev pub Nested : {A : Type 0} → (Rule A → Rule A) → Rule A
Nested F front a = (n : ℕ) × Depth F n front a

-- ---- forms that many productions share

-- the second of two parts
abbrev pub last : {A B : Type 0} → A × B → B
last p = p.1

-- what stands behind a token
abbrev pub Behind : {A : Type 0} → List Sort → Rule A → Rule A
Behind sorts R = Made last (Seq (The sorts) R)

-- the first of two parts, of which the second tells nothing
abbrev pub former : {A : Type 0} → A × Unit {0} → A
former p = p.0

-- what stands before a token
abbrev pub Before : {A : Type 0} → List Sort → Rule A → Rule A
Before sorts R = Made former (Seq R (The sorts))

-- whether a token of these sorts stands there
abbrev pub Whether : List Sort → Rule Bool
Whether sorts = Made is_some (Opt (The sorts))

-- what stands between two tokens
abbrev pub Between : {A : Type 0} → List Sort → List Sort → Rule A → Rule A
Between left right R = Behind left (Before right R)

-- a part and those that follow it, as one list
abbrev pub cons : {A : Type 0} → A × List A → List A
cons p = p.0 ∷ p.1

-- one or more
abbrev pub More : {A : Type 0} → Rule A → Rule (List A)
More R = Made cons (Seq R (Many R))

-- the list where it is there, and the empty list where it is left out
abbrev pub or_none : {A : Type 0} → Option (List A) → List A
or_none None = []
or_none (Some all) = all

-- a list that may be left out
abbrev pub Perhaps : {A : Type 0} → Rule (List A) → Rule (List A)
Perhaps R = Made or_none (Opt R)
