-- Tokens spelled one after another lex to these tokens again.
use Rattle.std.proofs.Common.{◌≡◌, ℕ, ◌&&◌, Bool, true, false, cond, List, [], ◌∷◌, ◌++◌, length, take, drop, map, Option, Some, unwrap_or, refl, sym, ap, subst, ◌∙◌, arith}
use Rattle.std.proofs.Math.Seq.{take-append_seam, drop-append_seam}
use Rattle.gql_tokens.specs.declared.token.Place.{Place}
use Rattle.gql_tokens.specs.declared.token.Kind.{Kind}
use Rattle.gql_tokens.specs.declared.token.Kind.TheVariants.{Bang, Dollar, Ampersand, ParenOpen, ParenClose, Spread, Colon, Equals, At, BracketOpen, BracketClose, BraceOpen, Pipe, BraceClose, Name, Integer, String, Fault, End}
use Rattle.gql_tokens.specs.Places.{first_place, place_after}
use Rattle.gql_tokens.specs.Lexemes.{ignored_len, token_at}
use Rattle.gql_tokens.specs.Tokens.{Token, tokens_from}
use Rattle.gql_tokens.specs.Heads.{head_of}
use Rattle.gql_tokens.proofs.LexemeLaws.{token_lies}
use Rattle.gql_tokens.proofs.TokenLaws.{ignored, first_token, behind_goes_on}
use Rattle.gql_spelling.specs.Spelling.{mark_of, IsTextOf, AreSpelled, is_word, space_before, spaced, IsApart, StandApart, bare, SpacedLexesAgain}
use Rattle.gql_spelling.proofs.Words.{Stops, name_lexes, integer_lexes, Marked, bang_lexes, dollar_lexes, ampersand_lexes, paren_open_lexes, paren_close_lexes, spread_lexes, colon_lexes, equals_lexes, at_lexes, bracket_open_lexes, bracket_close_lexes, brace_open_lexes, pipe_lexes, brace_close_lexes}
use Rattle.gql_spelling.proofs.Quotes.{string_lexes}

-- ---- a mark stops a word, unless it is `...` behind an integer

mark_stops : (kind next : Kind) (text back : List ℕ) → IsTextOf next text → is_word next ≡ false → (kind ≡ Integer → next ≡ Spread → ⊥) → Stops kind (text ++ back)
mark_stops kind Bang text back h w a = subst (λ (t : List ℕ). Stops kind (t ++ back)) (sym h) (refl, (refl, λ _. refl))
mark_stops kind Dollar text back h w a = subst (λ (t : List ℕ). Stops kind (t ++ back)) (sym h) (refl, (refl, λ _. refl))
mark_stops kind Ampersand text back h w a = subst (λ (t : List ℕ). Stops kind (t ++ back)) (sym h) (refl, (refl, λ _. refl))
mark_stops kind ParenOpen text back h w a = subst (λ (t : List ℕ). Stops kind (t ++ back)) (sym h) (refl, (refl, λ _. refl))
mark_stops kind ParenClose text back h w a = subst (λ (t : List ℕ). Stops kind (t ++ back)) (sym h) (refl, (refl, λ _. refl))
mark_stops kind Spread text back h w a = subst (λ (t : List ℕ). Stops kind (t ++ back)) (sym h) (refl, (refl, λ i. absurd (a i refl)))
mark_stops kind Colon text back h w a = subst (λ (t : List ℕ). Stops kind (t ++ back)) (sym h) (refl, (refl, λ _. refl))
mark_stops kind Equals text back h w a = subst (λ (t : List ℕ). Stops kind (t ++ back)) (sym h) (refl, (refl, λ _. refl))
mark_stops kind At text back h w a = subst (λ (t : List ℕ). Stops kind (t ++ back)) (sym h) (refl, (refl, λ _. refl))
mark_stops kind BracketOpen text back h w a = subst (λ (t : List ℕ). Stops kind (t ++ back)) (sym h) (refl, (refl, λ _. refl))
mark_stops kind BracketClose text back h w a = subst (λ (t : List ℕ). Stops kind (t ++ back)) (sym h) (refl, (refl, λ _. refl))
mark_stops kind BraceOpen text back h w a = subst (λ (t : List ℕ). Stops kind (t ++ back)) (sym h) (refl, (refl, λ _. refl))
mark_stops kind Pipe text back h w a = subst (λ (t : List ℕ). Stops kind (t ++ back)) (sym h) (refl, (refl, λ _. refl))
mark_stops kind BraceClose text back h w a = subst (λ (t : List ℕ). Stops kind (t ++ back)) (sym h) (refl, (refl, λ _. refl))
mark_stops kind Name text back h w a = absurd cc
mark_stops kind Integer text back h w a = absurd cc
mark_stops kind String text back h w a = absurd cc
mark_stops kind Fault text back h w a = absurd h
mark_stops kind End text back h w a = absurd h

-- ---- each token at the front

abbrev Lexes : Kind → List ℕ → List ℕ → Type 0
Lexes kind text back = (ignored_len (text ++ back) ≡ 0) × (token_at (text ++ back) ≡ Some (kind, length text))

marked : (kind : Kind) (text back : List ℕ) → text ≡ mark_of kind → Marked kind back → Lexes kind text back
marked kind text back h m = subst (λ (t : List ℕ). Lexes kind t back) (sym h) m

token_lexes : (kind : Kind) (text back : List ℕ) → IsTextOf kind text → (is_word kind ≡ true → Stops kind back) → Lexes kind text back
token_lexes Name text back h s = name_lexes text back h (s refl)
token_lexes Integer text back h s = integer_lexes text back h (s refl)
token_lexes String text back h s = string_lexes text back h (s refl)
token_lexes Bang text back h s = marked Bang text back h (bang_lexes back)
token_lexes Dollar text back h s = marked Dollar text back h (dollar_lexes back)
token_lexes Ampersand text back h s = marked Ampersand text back h (ampersand_lexes back)
token_lexes ParenOpen text back h s = marked ParenOpen text back h (paren_open_lexes back)
token_lexes ParenClose text back h s = marked ParenClose text back h (paren_close_lexes back)
token_lexes Spread text back h s = marked Spread text back h (spread_lexes back)
token_lexes Colon text back h s = marked Colon text back h (colon_lexes back)
token_lexes Equals text back h s = marked Equals text back h (equals_lexes back)
token_lexes At text back h s = marked At text back h (at_lexes back)
token_lexes BracketOpen text back h s = marked BracketOpen text back h (bracket_open_lexes back)
token_lexes BracketClose text back h s = marked BracketClose text back h (bracket_close_lexes back)
token_lexes BraceOpen text back h s = marked BraceOpen text back h (brace_open_lexes back)
token_lexes Pipe text back h s = marked Pipe text back h (pipe_lexes back)
token_lexes BraceClose text back h s = marked BraceClose text back h (brace_close_lexes back)
token_lexes Fault text back h s = absurd h
token_lexes End text back h s = absurd h

-- ---- what follows a token

gap_stops : (kind : Kind) (tokens : List Token) → AreSpelled tokens → IsApart kind tokens → is_word kind ≡ true → Stops kind (space_before kind tokens ++ spaced tokens)
gap_stops kind [] h a w = tt
gap_stops kind (next ∷ tokens) h a w = by (is_word next.kind) refl
  where
    by : (t : Bool) → is_word next.kind ≡ t → Stops kind ((cond (is_word kind && is_word next.kind) (32 ∷ []) []) ++ spaced (next ∷ tokens))
    by true e = rw (w, e) (refl, (refl, λ _. refl))
    by false e = rw (w, e) (mark_stops kind next.kind next.text (space_before next.kind tokens ++ spaced tokens) h.0 e a)

-- a space gives nothing
gap_skipped : (place : Place) (kind : Kind) (tokens : List Token) → (later : Place) × (tokens_from place (space_before kind tokens ++ spaced tokens) ≡ tokens_from later (spaced tokens))
gap_skipped place kind [] = (place, refl)
gap_skipped place kind (next ∷ tokens) = by (is_word kind && is_word next.kind)
  where
    by : (t : Bool) → (later : Place) × (tokens_from place (cond t (32 ∷ []) [] ++ spaced (next ∷ tokens)) ≡ tokens_from later (spaced (next ∷ tokens)))
    by true = (place_after 1 place (32 ∷ spaced (next ∷ tokens)), ignored 1 place (32 ∷ spaced (next ∷ tokens)) refl (omega arith))
    by false = (place, refl)

head_is : (text : List ℕ) (t : Kind × ℕ) → token_at text ≡ Some t → head_of text ≡ t
head_is [] t e = absurd cc
head_is (b ∷ rest) t e = ap (λ (o : Option (Kind × ℕ)). unwrap_or o (Fault, 0)) e

-- ---- all tokens

first_lexes : (token : Token) (back : List ℕ) (place : Place) → Lexes token.kind token.text back
    → map bare (tokens_from place (token.text ++ back)) ≡ bare token ∷ map bare (tokens_from (place_after (length token.text) place (token.text ++ back)) back)
first_lexes token back place l =
    let text = token.text ++ back in
    let len = length token.text in
    let goes_on = (token_lies text (token.kind, len) l.1).goes_on in
    let first = first_token token.kind len place text l.0 (head_is text (token.kind, len) l.1) in
    let later = place_after len place text in
    ap (map bare) (first ∙ ap (λ (more : List Token). record { kind = token.kind; text = take len text; place = place } ∷ more) (behind_goes_on token.kind len place text goes_on))
    ∙ ap (λ (t : List ℕ). (token.kind, t) ∷ map bare (tokens_from later (drop len text))) (take-append_seam token.text back)
    ∙ ap (λ (t : List ℕ). bare token ∷ map bare (tokens_from later t)) (drop-append_seam token.text back)

lexes_from : (tokens : List Token) → AreSpelled tokens → StandApart tokens → (place : Place) → map bare (tokens_from place (spaced tokens)) ≡ map bare tokens ++ (End, []) ∷ []
lexes_from [] h a place = refl
lexes_from (token ∷ tokens) h a place =
    let back = space_before token.kind tokens ++ spaced tokens in
    let lexes = token_lexes token.kind token.text back h.0 (gap_stops token.kind tokens h.1 a.0) in
    let later = place_after (length token.text) place (token.text ++ back) in
    let skipped = gap_skipped later token.kind tokens in
    first_lexes token back place lexes
    ∙ ap (λ (more : List Token). bare token ∷ map bare more) skipped.1
    ∙ ap (λ (more : List (Kind × List ℕ)). bare token ∷ more) (lexes_from tokens h.1 a.1 skipped.0)

pub lexes_again : SpacedLexesAgain
lexes_again tokens h a = lexes_from tokens h a first_place
