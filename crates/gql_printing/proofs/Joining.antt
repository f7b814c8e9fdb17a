-- No integer stands directly before `...`, part by part.
use Rattle.std.proofs.Common.{◌≡◌, Bool, true, false, [], ◌∷◌, ◌++◌, sym, ap, subst, ◌∙◌, append_assoc, append-nil}
use Rattle.gql_tokens.specs.Tokens.{Token}
use Rattle.gql_tokens.specs.declared.token.Kind.{Kind}
use Rattle.gql_tokens.specs.declared.token.Kind.TheVariants.{Integer, Spread}
use Rattle.gql_spelling.specs.Spelling.{IsApart, StandApart}
use Rattle.gql_printing.specs.Tokens.{Toks}

-- Of two classes of parts one has no `...` at its front, the other no integer at its end. A token is of both but for these two kinds.
abbrev pub is_calm : Bool → Kind → Bool
is_calm true Integer = false
is_calm true _ = true
is_calm false Spread = false
is_calm false _ = true

-- what may follow a part of the class
abbrev pub Calm : Bool → Toks → Type 0
Calm true ts = Unit {0}
Calm false [] = Unit {0}
Calm false (x ∷ ts) = x.kind ≡ Spread → ⊥

-- the part may stand before what may follow
abbrev pub Joins : Bool → Toks → Type 0
Joins c ts = (back : Toks) → StandApart back → Calm c back → StandApart (ts ++ back) × Calm c (ts ++ back)

differ : false ≡ true → ⊥
differ e = cc

no_integer : (k : Kind) → is_calm true k ≡ true → k ≡ Integer → ⊥
no_integer k h e = differ (sym (ap (is_calm true) e) ∙ h)

no_spread : (k : Kind) → is_calm false k ≡ true → k ≡ Spread → ⊥
no_spread k h e = differ (sym (ap (is_calm false) e) ∙ h)

pub calm_nil : (c : Bool) → Calm c []
calm_nil true = tt
calm_nil false = tt

calm_first : (c : Bool) (x : Token) (back : Toks) → is_calm c x.kind ≡ true → Calm c (x ∷ back)
calm_first true x back h = tt
calm_first false x back h = no_spread x.kind h

apart_before : (c : Bool) (x : Token) (back : Toks) → is_calm c x.kind ≡ true → Calm c back → IsApart x.kind back
apart_before c x [] h k = tt
apart_before true x (next ∷ back) h k = λ i s. no_integer x.kind h i
apart_before false x (next ∷ back) h k = λ i s. k s

pub joins_nil : (c : Bool) → Joins c []
joins_nil c back s k = (s, k)

pub joins_one : (c : Bool) (x : Token) → is_calm c x.kind ≡ true → Joins c (x ∷ [])
joins_one c x h back s k = ((apart_before c x back h k, s), calm_first c x back h)

pub joins_append : (c : Bool) (a b : Toks) → Joins c a → Joins c b → Joins c (a ++ b)
joins_append c a b ja jb back s k =
    let behind = jb back s k in
    let whole = ja (b ++ back) behind.0 behind.1 in
    subst (λ (t : Toks). StandApart t × Calm c t) (sym (append_assoc a b back)) whole

-- what ends in no integer may stand before anything
closed : (ts : Toks) (r : Token) (back : Toks) → is_calm true r.kind ≡ true → StandApart (ts ++ r ∷ []) → StandApart back → StandApart (ts ++ r ∷ back)
closed [] r back h a s = (apart_before true r back h tt, s)
closed (x ∷ []) r back h a s = (a.0, closed [] r back h a.1 s)
closed (x ∷ y ∷ ts) r back h a s = (a.0, closed (y ∷ ts) r back h a.1 s)

pub joins_between : (c d : Bool) (l r : Token) (p : Toks) → is_calm c l.kind ≡ true → is_calm true r.kind ≡ true → Joins d (l ∷ (p ++ r ∷ [])) → Joins c (l ∷ (p ++ r ∷ []))
joins_between c d l r p hl hr j back s k =
    let alone : StandApart (l ∷ (p ++ r ∷ [])) = subst StandApart (append-nil (l ∷ (p ++ r ∷ []))) (j [] tt (calm_nil d)).0 in
    let whole = closed (l ∷ p) r back hr alone s in
    (subst (λ (t : Toks). StandApart (l ∷ t)) (sym (append_assoc p (r ∷ []) back)) whole, calm_first c l ((p ++ r ∷ []) ++ back) hl)
