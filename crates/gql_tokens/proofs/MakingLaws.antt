-- The tokens of a text make it up.
use Rattle.std.proofs.Common.{◌≡◌, ◌≤◌, ◌<◌, ℕ, zero, suc, ◌+◌, ◌-◌, ◌||◌, ◌&&◌, ◌==◌, Bool, true, false, cond, List, [], ◌∷◌, ◌++◌, length, take, drop, refl, sym, ap, subst, ◌∙◌, arith, append_assoc, length-take, length-drop, length-append}
use Rattle.std.specs.Prelude.{MatchBool}
use Rattle.std.proofs.lemmas.List.{take-append-drop}
use Rattle.gql_tokens.specs.declared.token.Place.{Place}
use Rattle.gql_tokens.specs.declared.token.Kind.{Kind}
use Rattle.gql_tokens.specs.Characters.{begins_with, is_white_space, is_line_end, line_end_len}
use Rattle.gql_tokens.specs.Runs.{run}
use Rattle.gql_tokens.specs.Places.{first_place, place_after}
use Rattle.gql_tokens.specs.Lexemes.{byte_order_mark, comment_character, ignored_len}
use Rattle.gql_tokens.specs.Tokens.{Token, tokens_from}
use Rattle.gql_tokens.specs.Heads.{is_last, head_of}
use Rattle.gql_tokens.specs.Laws.{together, StandsIn, MakeUp, TokensMakeUpTexts}
use Rattle.gql_tokens.proofs.Choices.{choice}
use Rattle.gql_tokens.proofs.NameLaws.{both}
use Rattle.gql_tokens.proofs.LexemeLaws.{begins_len, run_within}
use Rattle.gql_tokens.proofs.HeadLaws.{head_some, head_within}
use Rattle.gql_tokens.proofs.PlaceLaws.{place_after-add}
use Rattle.gql_tokens.proofs.TokenLaws.{ignored, first_token, behind_token}

-- what is ignored lies within the text
pub ignored_within : (text : List ℕ) → ignored_len text ≤ length text
ignored_within [] = omega arith
ignored_within (b ∷ rest) =
    choice Within (is_white_space b || b == 44) 1 _ (λ h. omega arith) (λ h.
    choice Within (is_line_end b) (line_end_len b rest) _
    (λ i. choice Within (b == 13 && begins_with (10 ∷ []) rest) 2 1 (λ j. let one = begins_len (10 ∷ []) rest (both _ _ j).1 in omega arith) (λ j. omega arith)) (λ i.
    choice Within (b == 35) (1 + (run comment_character rest).1) _ (λ j. let inside = run_within comment_character rest in omega arith) (λ j.
    choice Within (begins_with byte_order_mark (b ∷ rest)) 3 0 (λ k. begins_len byte_order_mark (b ∷ rest) k) (λ k. omega arith))))
  where
    Within : ℕ → Type 0
    Within n = n ≤ length (b ∷ rest)

-- one ignored stretch before
before : (n : ℕ) (place : Place) (text : List ℕ) (tokens : List Token) → n ≡ ignored_len text → 0 < n → n ≤ length text
    → MakeUp (place_after n place text) (drop n text) tokens → MakeUp place text tokens
before n place text [] e s w m = m
before n place text (token ∷ tokens) e s w m =
    let rest = m.0 in
    let stands = m.1.0 in
    let long : length (take n text) ≡ n = omega (arith, length-take n text) in
    let whole : text ≡ take n text ++ (together stands.stretches ++ (token.text ++ rest)) = sym (take-append-drop n text) ∙ ap (λ (back : List ℕ). take n text ++ back) stands.text_is in
    let count : n + length (together stands.stretches) ≡ length (take n text ++ together stands.stretches) = omega (arith, length-append (take n text) (together stands.stretches)) in (
      rest,
      (
        record {
          stretches = take n text ∷ stands.stretches;
          text_is = whole ∙ sym (append_assoc (take n text) (together stands.stretches) (token.text ++ rest));
          ignored = (sym (ap ignored_len whole) ∙ sym e ∙ sym long, (subst (λ (k : ℕ). 0 < k) (sym long) s, stands.ignored));
          place_is = stands.place_is ∙ sym (place_after-add n (length (together stands.stretches)) place text) ∙ ap (λ (k : ℕ). place_after k place text) count;
        },
        m.1.1,
      ),
    )

-- a token at the front
here : (kind : Kind) (len : ℕ) (place : Place) (text : List ℕ) → len ≤ length text
    → (is_last kind ≡ false → MakeUp (place_after len place text) (drop len text) (tokens_from (place_after len place text) (drop len text)))
    → MakeUp place text (record { kind = kind; text = take len text; place = place } ∷ behind_token kind len place text)
here kind len place text w more =
    let cut : text ≡ take len text ++ drop len text = sym (take-append-drop len text) in
    let long : length (take len text) ≡ len = omega (arith, length-take len text) in
    let stands : StandsIn place text (record { kind = kind; text = take len text; place = place }) (drop len text) = record { stretches = []; text_is = cut; ignored = tt; place_is = refl } in
    (drop len text, (stands, ends (is_last kind) refl long cut))
  where
    ends : (last : Bool) → is_last kind ≡ last → length (take len text) ≡ len → text ≡ take len text ++ drop len text
        → MatchBool last (cond last [] (tokens_from (place_after len place text) (drop len text)) ≡ [])
        (MakeUp (place_after (length (take len text)) place (take len text ++ drop len text)) (drop len text) (cond last [] (tokens_from (place_after len place text) (drop len text))))
    ends true e long cut = refl
    ends false e long cut = subst (λ (p : Place). MakeUp p (drop len text) (tokens_from (place_after len place text) (drop len text))) (ap (λ (k : ℕ). place_after k place text) (sym long) ∙ ap (λ (t : List ℕ). place_after (length (take len text)) place t) cut) (more e)

turn : (most : ℕ) (place : Place) (text : List ℕ) → length text ≤ suc most
    → ((p : Place) (t : List ℕ) → length t ≤ most → MakeUp p t (tokens_from p t))
    → (n : ℕ) → n ≡ ignored_len text → MakeUp place text (tokens_from place text)
turn most place text h more (suc n) e =
    let w = ignored_within text in
    let cut : length (drop (suc n) text) ≡ length text - suc n = length-drop (suc n) text in
    let later = place_after (suc n) place text in
    before (suc n) place text (tokens_from place text) e (omega arith) (omega arith)
    (subst (MakeUp later (drop (suc n) text)) (sym (ignored (suc n) place text e (omega arith))) (more later (drop (suc n) text) (omega arith)))
turn most place text h more zero e =
    let kind = (head_of text).0 in
    let len = (head_of text).1 in
    let w : len ≤ length text = head_within text in
    let cut : length (drop len text) ≡ length text - len = length-drop len text in
    subst (MakeUp place text) (sym (first_token kind len place text (sym e) refl))
    (here kind len place text w (λ goes_on. let some : 0 < len = head_some text kind len refl goes_on in more (place_after len place text) (drop len text) (omega arith)))

make : (most : ℕ) (place : Place) (text : List ℕ) → length text ≤ most → MakeUp place text (tokens_from place text)
make zero place text h = turn zero place text (omega arith) (λ p t i. nothing p t i) (ignored_len text) refl
  where
    nothing : (p : Place) (t : List ℕ) → length t ≤ 0 → MakeUp p t (tokens_from p t)
    nothing p [] i = here (head_of []).0 0 p [] (omega arith) (λ goes_on. absurd cc)
    nothing p (b ∷ t) i = absurd (omega arith)
make (suc most) place text h = turn most place text h (make most) (ignored_len text) refl

pub tokens_make_up : TokensMakeUpTexts
tokens_make_up text = make (length text) first_place text (omega arith)
