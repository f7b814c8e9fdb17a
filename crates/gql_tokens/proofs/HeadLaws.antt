-- A head is the first of its tokens.
use Rattle.std.proofs.Common.{◌≡◌, ◌<◌, ◌≤◌, ℕ, ◌-◌, length, arith, Bool, true, false, List, [], ◌∷◌, Option, Some, None, unwrap_or, refl, ap, subst, ◌∙◌}
use Rattle.gql_tokens.specs.declared.token.Kind.{Kind}
use Rattle.gql_tokens.specs.declared.token.Kind.TheVariants.{Fault, End}
use Rattle.gql_tokens.specs.declared.token.Place.{Place}
use Rattle.gql_tokens.specs.Places.{first_place, place_after, place_in}
use Rattle.gql_tokens.specs.Lexemes.{token_at}
use Rattle.gql_tokens.specs.Tokens.{end_at, fault_at}
use Rattle.gql_tokens.specs.declared.heads.Head.{Head}
use Rattle.gql_tokens.specs.Heads.{IsHead, IsBehind, is_last, head_of, tokens_at, token_of}
use Rattle.gql_tokens.proofs.LexemeLaws.{token_lies}
use Rattle.gql_tokens.proofs.TokenLaws.{first_token, behind_token}

clash : (b : Bool) → b ≡ true → b ≡ false → ⊥
clash true t f = cc
clash false t f = cc

pub head_token : (head : Head) → IsHead head → tokens_at head ≡ token_of head ∷ behind_token head.kind head.len head.place head.rest.now
head_token head h = first_token head.kind head.len head.place head.rest.now h.begins h.is

-- a fault and the end take nothing
pub head_last : (text : List ℕ) (kind : Kind) (len : ℕ) → head_of text ≡ (kind, len) → is_last kind ≡ true → len ≡ 0
head_last text kind len e = subst (λ (t : Kind × ℕ). is_last t.0 ≡ true → t.1 ≡ 0) e (whole text)
  where
    whole : (text : List ℕ) → is_last (head_of text).0 ≡ true → (head_of text).1 ≡ 0
    whole [] l = refl
    whole (b ∷ rest) l = here (token_at (b ∷ rest)) refl l
      where
        here : (o : Option (Kind × ℕ)) → token_at (b ∷ rest) ≡ o → is_last (unwrap_or o (Fault, 0)).0 ≡ true → (unwrap_or o (Fault, 0)).1 ≡ 0
        here None e l = refl
        here (Some t) e l = let lies = (token_lies (b ∷ rest) t e).goes_on in absurd (clash _ l lies)

-- the end stands behind the whole text
pub head_end : (text : List ℕ) (len : ℕ) → head_of text ≡ (End, len) → text ≡ []
head_end [] len e = refl
head_end (b ∷ rest) len e = here (token_at (b ∷ rest)) refl e
  where
    here : (o : Option (Kind × ℕ)) → token_at (b ∷ rest) ≡ o → unwrap_or o (Fault, 0) ≡ (End, len) → b ∷ rest ≡ []
    here None _ f = let other : Fault ≡ End = ap (λ (u : Kind × ℕ). u.0) f in absurd cc
    here (Some t) e f = let lies = (token_lies (b ∷ rest) t e).goes_on in let last : is_last t.0 ≡ true = ap (λ (u : Kind × ℕ). is_last u.0) f in absurd (clash _ last lies)

-- a head takes a byte at least, if it goes on
pub head_some : (text : List ℕ) (kind : Kind) (len : ℕ) → head_of text ≡ (kind, len) → is_last kind ≡ false → 0 < len
head_some text kind len e = subst (λ (t : Kind × ℕ). is_last t.0 ≡ false → 0 < t.1) e (whole text)
  where
    whole : (text : List ℕ) → is_last (head_of text).0 ≡ false → 0 < (head_of text).1
    whole [] l = absurd cc
    whole (b ∷ rest) l = here (token_at (b ∷ rest)) refl l
      where
        here : (o : Option (Kind × ℕ)) → token_at (b ∷ rest) ≡ o → is_last (unwrap_or o (Fault, 0)).0 ≡ false → 0 < (unwrap_or o (Fault, 0)).1
        here None e l = absurd cc
        here (Some t) e l = (token_lies (b ∷ rest) t e).some

fault_or_end : (kind : Kind) → is_last kind ≡ true → (kind ≡ End → ⊥) → kind ≡ Fault
fault_or_end Fault l e = refl
fault_or_end End l e = absurd (e refl)
fault_or_end _ l e = absurd (clash _ l refl)

pub last_token : (head : Head) → IsHead head → is_last head.kind ≡ true → tokens_at head ≡ record { kind = head.kind; text = []; place = head.place } ∷ []
last_token head h l = head_token head h ∙ rw (head_last head.rest.now head.kind head.len h.is l, l) refl

-- the end's place is that behind all bytes
pub ended : (text : List ℕ) (head : Head) → IsHead head → head.kind ≡ End → IsBehind first_place text (length text - length head.rest.now) head.place head.rest.now
    → (tokens_at head ≡ end_at (place_in text (length text)) ∷ []) × (length text - length head.rest.now ≡ length text)
ended text head h k b =
    let none : head.rest.now ≡ [] = head_end head.rest.now head.len (h.is ∙ ap (λ (kind : Kind). (kind, head.len)) k) in
    let short : length head.rest.now ≡ 0 = ap length none in
    let whole : length text - length head.rest.now ≡ length text = omega arith in
    let place : head.place ≡ place_in text (length text) = b.place_is ∙ ap (λ (n : ℕ). place_after n first_place text) whole in
    (last_token head h (ap is_last k) ∙ ap (λ (kind : Kind). record { kind = kind; text = []; place = head.place } ∷ []) k ∙ ap (λ (p : Place). end_at p ∷ []) place, whole)

pub faulty : (head : Head) → IsHead head → is_last head.kind ≡ true → (head.kind ≡ End → ⊥) → tokens_at head ≡ fault_at head.place ∷ []
faulty head h l e = last_token head h l ∙ ap (λ (kind : Kind). record { kind = kind; text = []; place = head.place } ∷ []) (fault_or_end head.kind l e)

pub head_within : (text : List ℕ) → (head_of text).1 ≤ length text
head_within [] = omega arith
head_within (b ∷ rest) = here (token_at (b ∷ rest)) refl
  where
    here : (o : Option (Kind × ℕ)) → token_at (b ∷ rest) ≡ o → (unwrap_or o (Fault, 0)).1 ≤ length (b ∷ rest)
    here None e = omega arith
    here (Some t) e = (token_lies (b ∷ rest) t e).within
