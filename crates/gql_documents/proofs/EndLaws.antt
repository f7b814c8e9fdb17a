-- The tokens of a text end with its end or its first fault, and nothing stands behind.
use Rattle.std.proofs.Common.{◌≡◌, ◌≢◌, ℕ, zero, suc, ◌+◌, ◌-◌, Bool, true, false, not, ◌&&◌, ◌||◌, List, [], ◌∷◌, ◌++◌, Option, Some, None, refl, sym, ap, subst, ◌∙◌}
use Rattle.std.specs.Prelude.{if◌then◌else◌, option_map, ◌==◌, codes, take, drop}
use Rattle.std.specs.List.{prefix_len}
use Rattle.gql_tokens.specs.Numbers.{integer_len}
use Rattle.gql_tokens.specs.Strings.{string_len}
use Rattle.gql_tokens.specs.Blocks.{block_mark, block_len}
use Rattle.gql_tokens.specs.Tokens.{Token, tokens_of, tokens_behind, lexed, taken, fault_at}
use Rattle.gql_tokens.specs.Places.{place_behind, first_place}
use Rattle.gql_tokens.specs.Characters.{begins_with}
use Rattle.gql_tokens.specs.Lexemes.{ignored_len, token_at, name_token, integer_token, string_token, punctuator_token, punctuator, of_kind}
use Rattle.gql_tokens.specs.Names.{is_name_start, is_name_continue, is_digit}
use Rattle.gql_tokens.specs.declared.token.Kind.{Kind}
use Rattle.gql_tokens.specs.declared.token.Kind.TheVariants as kind
use Rattle.gql_tokens.specs.declared.token.Place.{Place}
use Rattle.gql_tokens.specs.Heads.{is_last}
use Rattle.gql_documents.proofs.SortLaws.{and_left, and_right, or_left, or_right}
use Rattle.gql_documents.proofs.Laws.{has_last}

abbrev Toks : Type 0
Toks = List Token

abbrev pub is_ended : Toks → Bool
is_ended [] = false
is_ended (x ∷ []) = is_last x.kind
is_ended (x ∷ y ∷ rest) = not (is_last x.kind) && is_ended (y ∷ rest)

ended_cons : (x : Token) (ts : Toks) → is_last x.kind ≡ false → is_ended ts ≡ true → is_ended (x ∷ ts) ≡ true
ended_cons x [] h e = absurd cc
ended_cons x (y ∷ ts) h e = rw h e

-- ---- no token that is lexed is a last one

abbrev KindsPlain : Option Kind → Type 0
KindsPlain o = (k : Kind) → o ≡ Some k → is_last k ≡ false

abbrev Plain : Option (Kind × ℕ) → Type 0
Plain o = (t : Kind × ℕ) → o ≡ Some t → is_last t.0 ≡ false

some_kind : (k : Kind) → is_last k ≡ false → KindsPlain (Some k)
some_kind k h j e = let s : k ≡ j = cc in subst (λ (i : Kind). is_last i ≡ false) s h

no_kind : KindsPlain None
no_kind k e = absurd cc

kind_if : (b : Bool) (o p : Option Kind) → KindsPlain o → KindsPlain p → KindsPlain (if b then o else p)
kind_if true o p f g = f
kind_if false o p f g = g

some_plain : (k : Kind) (n : ℕ) → is_last k ≡ false → Plain (Some (k, n))
some_plain k n h t e =
    let given : Kind × ℕ = (k, n) in
    let s : given ≡ t = cc in
    subst (λ (i : Kind × ℕ). is_last i.0 ≡ false) s h

none_plain : Plain None
none_plain t e = absurd cc

plain_if : (b : Bool) (o p : Option (Kind × ℕ)) → Plain o → Plain p → Plain (if b then o else p)
plain_if true o p f g = f
plain_if false o p f g = g

mapped_plain : (k : Kind) (o : Option ℕ) → is_last k ≡ false → Plain (option_map (of_kind k) o)
mapped_plain k None h = none_plain
mapped_plain k (Some n) h = some_plain k n h

mapped_kind : (o : Option Kind) → KindsPlain o → Plain (option_map (λ k. of_kind k 1) o)
mapped_kind None h = none_plain
mapped_kind (Some k) h = some_plain k 1 (h k refl)

punctuators_plain : (b : ℕ) → KindsPlain (punctuator b)
punctuators_plain b =
    kind_if (b == 33) _ _ (some_kind kind.Bang refl) (kind_if (b == 36) _ _ (some_kind kind.Dollar refl) (kind_if (b == 38) _ _ (some_kind kind.Ampersand refl)
    (kind_if (b == 40) _ _ (some_kind kind.ParenOpen refl) (kind_if (b == 41) _ _ (some_kind kind.ParenClose refl) (kind_if (b == 58) _ _ (some_kind kind.Colon refl)
    (kind_if (b == 61) _ _ (some_kind kind.Equals refl) (kind_if (b == 64) _ _ (some_kind kind.At refl) (kind_if (b == 91) _ _ (some_kind kind.BracketOpen refl)
    (kind_if (b == 93) _ _ (some_kind kind.BracketClose refl) (kind_if (b == 123) _ _ (some_kind kind.BraceOpen refl) (kind_if (b == 124) _ _ (some_kind kind.Pipe refl)
    (kind_if (b == 125) _ _ (some_kind kind.BraceClose refl) no_kind))))))))))))

name_plain : (text : List ℕ) → Plain (name_token text)
name_plain text = some_plain kind.Name (prefix_len is_name_continue text) refl

integer_plain : (text : List ℕ) → Plain (integer_token text)
integer_plain text = mapped_plain kind.Integer (integer_len text) refl

string_plain : (text : List ℕ) → Plain (string_token text)
string_plain text = mapped_plain kind.String (if begins_with block_mark text then block_len (drop 3 text) else string_len (drop 1 text)) refl

punctuator_plain : (b : ℕ) (text : List ℕ) → Plain (punctuator_token b text)
punctuator_plain b text =
    plain_if (begins_with (codes "...") text) (Some (kind.Spread, 3)) (option_map (λ k. of_kind k 1) (punctuator b)) (some_plain kind.Spread 3 refl) (mapped_kind (punctuator b) (punctuators_plain b))

token_plain : (text : List ℕ) → Plain (token_at text)
token_plain [] = none_plain
token_plain (b ∷ rest) =
    let text = b ∷ rest in
    let last = if b == 34 then string_token text else punctuator_token b text in
    let others = if is_digit b || b == 45 then integer_token text else last in
    plain_if (is_name_start b) (name_token text) others (name_plain text)
    (plain_if (is_digit b || b == 45) (integer_token text) last (integer_plain text)
    (plain_if (b == 34) (string_token text) (punctuator_token b text) (string_plain text) (punctuator_plain b text)))

ended_taken : (others : ℕ → Toks) (place : Place) (text : List ℕ) (o : Option (Kind × ℕ)) → Plain o → ((n : ℕ) → is_ended (others n) ≡ true) → is_ended (taken others place text o) ≡ true
ended_taken others place text None p h = refl
ended_taken others place text (Some t) p h = ended_cons (record { kind = t.0; text = take t.1 text; place = place }) (others (t.1 - 1)) (p t refl) (h (t.1 - 1))

ended_if : (b : Bool) (x y : Toks) → is_ended x ≡ true → is_ended y ≡ true → is_ended (if b then x else y) ≡ true
ended_if true x y e f = e
ended_if false x y e f = f

ended_behind : (left : ℕ) (place : Place) (text : List ℕ) → is_ended (tokens_behind left place text) ≡ true
ended_behind zero place [] = refl
ended_behind (suc left) place [] = refl
ended_behind (suc left) place (b ∷ rest) = ended_behind left (place_behind place b rest) rest
ended_behind zero place (b ∷ rest) =
    ended_if (ignored_len (b ∷ rest) == 0) _ _
    (ended_taken (λ left. tokens_behind left (place_behind place b rest) rest) place (b ∷ rest) (token_at (b ∷ rest)) (token_plain (b ∷ rest)) (λ n. ended_behind n (place_behind place b rest) rest))
    (ended_behind (ignored_len (b ∷ rest) - 1) (place_behind place b rest) rest)

pub ended_text : (text : List ℕ) → is_ended (tokens_of text) ≡ true
ended_text text = ended_behind zero first_place text

-- ---- what is left behind tokens that are no last one

pub left_some : (front : Toks) → has_last front ≡ false → is_ended (front ++ []) ≡ true → ⊥
left_some [] h e = absurd cc
left_some (x ∷ []) h e = let k : is_last x.kind ≡ false = or_left (is_last x.kind) _ h in absurd cc
left_some (x ∷ y ∷ front) h e = left_some (y ∷ front) (or_right (is_last x.kind) _ h) (and_right (not (is_last x.kind)) _ e)

pub end_alone : (front : Toks) (x : Token) (behind : Toks) → is_ended (front ++ x ∷ behind) ≡ true → is_last x.kind ≡ true → behind ≡ []
end_alone [] x [] e h = refl
end_alone [] x (y ∷ behind) e h = let k : not (is_last x.kind) ≡ true = and_left _ _ e in let j : not true ≡ true = rw h at k in absurd cc
end_alone (z ∷ []) x behind e h = end_alone [] x behind (and_right (not (is_last z.kind)) _ e) h
end_alone (z ∷ w ∷ front) x behind e h = end_alone (w ∷ front) x behind (and_right (not (is_last z.kind)) _ e) h
