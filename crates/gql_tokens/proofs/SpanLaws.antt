-- Spans, one after another.
use Rattle.std.proofs.Common.{◌≡◌, ◌≤◌, ◌<◌, ℕ, ◌+◌, ◌-◌, List, [], ◌∷◌, ◌++◌, map, length, drop, refl, sym, ap, ◌∙◌, arith}
use Rattle.gql_tokens.specs.declared.token.Token.{Token as Span}
use Rattle.gql_tokens.specs.declared.heads.Head.{Head}
use Rattle.gql_tokens.specs.Tokens.{Token, seen, AreInOrder}
use Rattle.gql_tokens.specs.Heads.{token_of}

-- the span of a head is its token
pub seen_head : (text : List ℕ) (span : Span) (head : Head) → span.kind ≡ head.kind → span.start ≡ length text - length head.rest.now → span.end ≡ span.start + head.len
    → span.place ≡ head.place → head.rest.now ≡ drop (length text - length head.rest.now) text → seen text span ≡ token_of head
seen_head text span head k s e p r =
    let n : span.end - span.start ≡ head.len = omega arith in
    let here : drop span.start text ≡ head.rest.now = ap (λ (i : ℕ). drop i text) s ∙ sym r in
    rw (k, n, here, p) refl

-- one token more
pub span_turn : (text : List ℕ) (spans : List Span) (span : Span) (token : Token) (now more all : List Token) → seen text span ≡ token → now ≡ token ∷ more
    → map (seen text) spans ++ now ≡ all → map (seen text) (spans ++ span ∷ []) ++ more ≡ all
span_turn text [] span token now more all s n e = rw s (sym n ∙ e)
span_turn text (other ∷ spans) span token now more all s n e = ap (λ (tokens : List Token). seen text other ∷ tokens) (span_turn text spans span token now more (map (seen text) spans ++ now) s n refl) ∙ e

pub order_turn : (first mid last : ℕ) (spans : List Span) (span : Span) → AreInOrder first mid spans → mid ≤ span.start → span.start < span.end → span.end ≤ last → AreInOrder first last (spans ++ span ∷ [])
order_turn first mid last [] span h a b c = (omega arith, (b, c))
order_turn first mid last (other ∷ spans) span h a b c = (h.0, (h.1.0, order_turn other.end mid last spans span h.1.1 a b c))
