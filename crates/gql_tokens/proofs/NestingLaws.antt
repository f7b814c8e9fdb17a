-- Brackets, token by token.
use Rattle.std.proofs.Common.{◌≡◌, ◌≤◌, ℕ, ◌+◌, max, true, List, [], ◌∷◌, refl, ap, arith}
use Rattle.gql_tokens.specs.declared.token.Kind.{Kind}
use Rattle.gql_tokens.specs.declared.token.Kind.TheVariants.{ParenOpen, ParenClose, BracketOpen, BracketClose, BraceOpen, BraceClose}
use Rattle.gql_tokens.specs.Tokens.{Token}
use Rattle.gql_tokens.specs.Heads.{is_last}
use Rattle.gql_tokens.specs.Nesting.{open_behind, most_open}

pub open_le : (kind : Kind) (n : ℕ) → open_behind kind n ≤ n + 1
open_le ParenOpen n = omega arith
open_le BracketOpen n = omega arith
open_le BraceOpen n = omega arith
open_le ParenClose n = omega arith
open_le BracketClose n = omega arith
open_le BraceClose n = omega arith
open_le _ n = omega arith

last_opens : (kind : Kind) (n : ℕ) → is_last kind ≡ true → open_behind kind n ≡ n
last_opens ParenOpen n h = absurd cc
last_opens BracketOpen n h = absurd cc
last_opens BraceOpen n h = absurd cc
last_opens ParenClose n h = absurd cc
last_opens BracketClose n h = absurd cc
last_opens BraceClose n h = absurd cc
last_opens _ n h = refl

most_least : (n : ℕ) (tokens : List Token) → n ≤ most_open n tokens
most_least n [] = omega arith
most_least n (token ∷ tokens) = omega arith

pub nesting_turn : (most n whole : ℕ) (token : Token) (now tokens : List Token) → now ≡ token ∷ tokens → n ≤ most → max most (most_open n now) ≡ whole
    → max (max most (open_behind token.kind n)) (most_open (open_behind token.kind n) tokens) ≡ whole
nesting_turn most n whole token now tokens e h w =
    let same : most_open n now ≡ max n (most_open (open_behind token.kind n) tokens) = ap (most_open n) e in
    let least = most_least (open_behind token.kind n) tokens in
    omega arith

pub nesting_end : (most n whole : ℕ) (token : Token) (now : List Token) → now ≡ token ∷ [] → is_last token.kind ≡ true → n ≤ most → max most (most_open n now) ≡ whole → most ≡ whole
nesting_end most n whole token now e l h w =
    let same : most_open n now ≡ max n (open_behind token.kind n) = ap (most_open n) e in
    let still = last_opens token.kind n l in
    omega arith
