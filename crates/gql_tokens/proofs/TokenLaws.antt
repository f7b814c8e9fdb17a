-- The tokens of a text, stretch by stretch.
use Rattle.std.proofs.Common.{◌≡◌, ◌<◌, ℕ, zero, suc, ◌-◌, false, cond, eqb, List, [], ◌∷◌, take, drop, Option, Some, None, unwrap_or, refl, ap, subst, arith}
use Rattle.gql_tokens.specs.declared.token.Place.{Place}
use Rattle.gql_tokens.specs.declared.token.Kind.{Kind}
use Rattle.gql_tokens.specs.declared.token.Kind.TheVariants.{Fault}
use Rattle.gql_tokens.specs.Places.{place_behind, place_after}
use Rattle.gql_tokens.specs.Lexemes.{ignored_len, token_at}
use Rattle.gql_tokens.specs.Tokens.{Token, taken, tokens_behind, tokens_from}
use Rattle.gql_tokens.specs.Heads.{is_last, head_of}
use Rattle.gql_tokens.proofs.LexemeLaws.{token_lies}

not_zero : (n : ℕ) → 0 < n → eqb n 0 ≡ false
not_zero zero h = absurd (omega arith)
not_zero (suc n) h = grind arith

-- bytes that belong to what was taken before give nothing
pub skip : (k : ℕ) (place : Place) (text : List ℕ) → tokens_behind k place text ≡ tokens_from (place_after k place text) (drop k text)
skip zero place [] = refl
skip (suc k) place [] = refl
skip zero place (b ∷ rest) = refl
skip (suc k) place (b ∷ rest) = skip k (place_behind place b rest) rest

behind : (n : ℕ) (place : Place) (b : ℕ) (rest : List ℕ) → 0 < n → tokens_behind (n - 1) (place_behind place b rest) rest ≡ tokens_from (place_after n place (b ∷ rest)) (drop n (b ∷ rest))
behind zero place b rest h = absurd (omega arith)
behind (suc n) place b rest h = let e : suc n - 1 ≡ n = omega arith in rw e (skip n (place_behind place b rest) rest)

-- what is ignored gives nothing
pub ignored : (n : ℕ) (place : Place) (text : List ℕ) → n ≡ ignored_len text → 0 < n → tokens_from place text ≡ tokens_from (place_after n place text) (drop n text)
ignored n place [] e h = absurd (omega arith)
ignored n place (b ∷ rest) e h = rw (← e, not_zero n h) (behind n place b rest h)

-- what stands behind a first token
abbrev pub behind_token : Kind → ℕ → Place → List ℕ → List Token
behind_token kind len place text = cond (is_last kind) [] (tokens_from (place_after len place text) (drop len text))

-- a token, or the last one, stands at the front of what begins with nothing ignored
pub first_token : (kind : Kind) (len : ℕ) (place : Place) (text : List ℕ) → ignored_len text ≡ 0 → head_of text ≡ (kind, len)
    → tokens_from place text ≡ record { kind = kind; text = take len text; place = place } ∷ behind_token kind len place text
first_token kind len place text i e =
    subst (λ (t : Kind × ℕ). tokens_from place text ≡ record { kind = t.0; text = take t.1 text; place = place } ∷ behind_token t.0 t.1 place text) e (whole text i)
  where
    whole : (text : List ℕ) → ignored_len text ≡ 0 → tokens_from place text ≡ record { kind = (head_of text).0; text = take (head_of text).1 text; place = place } ∷ behind_token (head_of text).0 (head_of text).1 place text
    whole [] i = refl
    whole (b ∷ rest) i = rw i (here (token_at (b ∷ rest)) refl)
      where
        here : (o : Option (Kind × ℕ)) → token_at (b ∷ rest) ≡ o → taken (λ left. tokens_behind left (place_behind place b rest) rest) place (b ∷ rest) o ≡ record { kind = (unwrap_or o (Fault, 0)).0; text = take (unwrap_or o (Fault, 0)).1 (b ∷ rest); place = place } ∷ behind_token (unwrap_or o (Fault, 0)).0 (unwrap_or o (Fault, 0)).1 place (b ∷ rest)
        here None e = refl
        here (Some t) e = let lies = token_lies (b ∷ rest) t e in rw lies.goes_on (ap (λ (more : List Token). record { kind = t.0; text = take t.1 (b ∷ rest); place = place } ∷ more) (behind t.1 place b rest lies.some))

pub behind_goes_on : (kind : Kind) (len : ℕ) (place : Place) (text : List ℕ) → is_last kind ≡ false → behind_token kind len place text ≡ tokens_from (place_after len place text) (drop len text)
behind_goes_on kind len place text h = rw h refl
