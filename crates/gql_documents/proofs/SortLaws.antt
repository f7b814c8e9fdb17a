-- Sorts that are apart, and sorts within others.
use Rattle.std.proofs.Common.{◌≡◌, ℕ, Bool, true, false, not, ◌&&◌, ◌||◌, List, [], ◌∷◌, ◌++◌, refl, sym, ap, subst, ◌∙◌, inl, inr, ◌⊎◌, arith}
use Rattle.std.specs.Prelude.{nat_eq, bytes_eq}
use Rattle.std.proofs.lemmas.Slice.Eq.{bytes_eq-Decides}
use Rattle.gql_tokens.specs.Tokens.{Token}
use Rattle.gql_model.specs.Sorts.{Sort, Mark, Word, Unlike, rank, is_among, is_of, is_in, starts}

pub and_left : (a b : Bool) → a && b ≡ true → a ≡ true
and_left true b e = refl
and_left false b e = absurd cc

pub and_right : (a b : Bool) → a && b ≡ true → b ≡ true
and_right true b e = e
and_right false b e = absurd cc

pub or_left : (a b : Bool) → a || b ≡ false → a ≡ false
or_left true b e = absurd cc
or_left false b e = refl

pub or_right : (a b : Bool) → a || b ≡ false → b ≡ false
or_right true b e = absurd cc
or_right false b e = e

pub or_cases : (a b : Bool) → a || b ≡ true → (a ≡ true) ⊎ (b ≡ true)
or_cases true b e = inl refl
or_cases false b e = inr e

or_true : (a b : Bool) → b ≡ true → a || b ≡ true
or_true true b e = refl
or_true false b e = e

pub not_true : (a : Bool) → not a ≡ true → a ≡ false
not_true true e = absurd cc
not_true false e = refl

not_false : (a : Bool) → a ≡ false → not a ≡ true
not_false a e = ap not e

none_of : (a b : Bool) → a ≡ false → a && b ≡ false
none_of a b e = rw e refl

both_true : (a b : Bool) → a ≡ true → b ≡ true → a && b ≡ true
both_true a b e f = rw (e, f) refl

right_none : (a b : Bool) → b ≡ false → a && b ≡ false
right_none true b e = e
right_none false b e = refl

pub same_text : (a b : List ℕ) → bytes_eq a b ≡ true → a ≡ b
same_text a b e = (bytes_eq-Decides a b).0 e

pub text_is : (a : List ℕ) → bytes_eq a a ≡ true
text_is a = (bytes_eq-Decides a a).1 refl

same_rank : (a b : ℕ) → nat_eq a b ≡ true → a ≡ b
same_rank a b e = grind arith

pub rank_is : (a : ℕ) → nat_eq a a ≡ true
rank_is a = grind arith

-- ---- apart

abbrev pub disjoint : Sort → Sort → Bool
disjoint (Mark j) (Mark k) = not (nat_eq (rank j) (rank k))
disjoint (Mark j) (Word w) = not (nat_eq (rank j) 14)
disjoint (Mark j) (Unlike ws) = not (nat_eq (rank j) 14)
disjoint (Word v) (Mark k) = not (nat_eq 14 (rank k))
disjoint (Word v) (Word w) = not (bytes_eq v w)
disjoint (Word v) (Unlike ws) = is_among ws v
disjoint (Unlike vs) (Mark k) = not (nat_eq 14 (rank k))
disjoint (Unlike vs) (Word w) = is_among vs w
disjoint (Unlike vs) (Unlike ws) = false

other_rank : (n a b : ℕ) → not (nat_eq a b) ≡ true → nat_eq n a ≡ true → nat_eq n b ≡ false
other_rank n a b e f = subst (λ (m : ℕ). nat_eq m b ≡ false) (sym (same_rank n a f)) (not_true _ e)

disjoint_sound : (s t : Sort) (x : Token) → disjoint s t ≡ true → is_of s x ≡ true → is_of t x ≡ false
disjoint_sound (Mark j) (Mark k) x d e = other_rank (rank x.kind) (rank j) (rank k) d e
disjoint_sound (Mark j) (Word w) x d e = none_of _ _ (other_rank (rank x.kind) (rank j) 14 d e)
disjoint_sound (Mark j) (Unlike ws) x d e = none_of _ _ (other_rank (rank x.kind) (rank j) 14 d e)
disjoint_sound (Word v) (Mark k) x d e = other_rank (rank x.kind) 14 (rank k) d (and_left _ _ e)
disjoint_sound (Word v) (Word w) x d e =
    right_none _ _ (subst (λ (t : List ℕ). bytes_eq t w ≡ false) (sym (same_text x.text v (and_right _ _ e))) (not_true _ d))
disjoint_sound (Word v) (Unlike ws) x d e =
    right_none _ _ (ap not (subst (λ (t : List ℕ). is_among ws t ≡ true) (sym (same_text x.text v (and_right _ _ e))) d))
disjoint_sound (Unlike vs) (Mark k) x d e = other_rank (rank x.kind) 14 (rank k) d (and_left _ _ e)
disjoint_sound (Unlike vs) (Word w) x d e = right_none _ _ (unlike (bytes_eq x.text w) refl)
  where
    unlike : (b : Bool) → bytes_eq x.text w ≡ b → bytes_eq x.text w ≡ false
    unlike false h = h
    unlike true h =
        let here : is_among vs x.text ≡ true = subst (λ (t : List ℕ). is_among vs t ≡ true) (sym (same_text x.text w h)) d in
        let there : is_among vs x.text ≡ false = not_true _ (and_right _ _ e) in
        absurd cc
disjoint_sound (Unlike vs) (Unlike ws) x d e = absurd cc

abbrev pub apart_from : Sort → List Sort → Bool
apart_from s [] = true
apart_from s (t ∷ ts) = disjoint s t && apart_from s ts

abbrev pub apart : List Sort → List Sort → Bool
apart [] ts = true
apart (s ∷ ss) ts = apart_from s ts && apart ss ts

neither : (a b : Bool) → a ≡ false → b ≡ false → a || b ≡ false
neither a b e f = rw (e, f) refl

apart_from_sound : (s : Sort) (ts : List Sort) (x : Token) → apart_from s ts ≡ true → is_of s x ≡ true → is_in ts x ≡ false
apart_from_sound s [] x d e = refl
apart_from_sound s (t ∷ ts) x d e = neither _ _ (disjoint_sound s t x (and_left _ _ d) e) (apart_from_sound s ts x (and_right _ _ d) e)

pub apart_sound : (ss ts : List Sort) (x : Token) → apart ss ts ≡ true → is_in ss x ≡ true → is_in ts x ≡ false
apart_sound [] ts x d e = absurd cc
apart_sound (s ∷ ss) ts x d e =
    elim (or_cases (is_of s x) (is_in ss x) e) [
      | inl h ↦ apart_from_sound s ts x (and_left _ _ d) h
      | inr h ↦ apart_sound ss ts x (and_right _ _ d) h
    ]

pub starts_apart : (ss ts : List Sort) (us : List Token) → apart ss ts ≡ true → starts ss us ≡ true → starts ts us ≡ false
starts_apart ss ts [] d e = refl
starts_apart ss ts (x ∷ us) d e = apart_sound ss ts x d e

-- ---- within

abbrev pub all_among : List (List ℕ) → List (List ℕ) → Bool
all_among vs [] = true
all_among vs (w ∷ ws) = is_among vs w && all_among vs ws

abbrev pub within : Sort → Sort → Bool
within (Mark j) (Mark k) = nat_eq (rank j) (rank k)
within (Mark j) (Word w) = false
within (Mark j) (Unlike ws) = false
within (Word v) (Mark k) = nat_eq 14 (rank k)
within (Word v) (Word w) = bytes_eq v w
within (Word v) (Unlike ws) = not (is_among ws v)
within (Unlike vs) (Mark k) = nat_eq 14 (rank k)
within (Unlike vs) (Word w) = false
within (Unlike vs) (Unlike ws) = all_among vs ws

rank_on : (n a b : ℕ) → nat_eq a b ≡ true → nat_eq n a ≡ true → nat_eq n b ≡ true
rank_on n a b e f = subst (λ (m : ℕ). nat_eq n m ≡ true) (same_rank a b e) f

fewer_words : (vs ws : List (List ℕ)) (text : List ℕ) → all_among vs ws ≡ true → is_among vs text ≡ false → is_among ws text ≡ false
fewer_words vs [] text d e = refl
fewer_words vs (w ∷ ws) text d e = neither _ _ (unlike (bytes_eq text w) refl) (fewer_words vs ws text (and_right _ _ d) e)
  where
    unlike : (b : Bool) → bytes_eq text w ≡ b → bytes_eq text w ≡ false
    unlike false h = h
    unlike true h =
        let here : is_among vs text ≡ true = subst (λ (t : List ℕ). is_among vs t ≡ true) (sym (same_text text w h)) (and_left _ _ d) in
        absurd cc

within_sound : (s t : Sort) (x : Token) → within s t ≡ true → is_of s x ≡ true → is_of t x ≡ true
within_sound (Mark j) (Mark k) x d e = rank_on _ _ _ d e
within_sound (Mark j) (Word w) x d e = absurd cc
within_sound (Mark j) (Unlike ws) x d e = absurd cc
within_sound (Word v) (Mark k) x d e = rank_on _ _ _ d (and_left _ _ e)
within_sound (Word v) (Word w) x d e = both_true _ _ (and_left _ _ e) (subst (λ (t : List ℕ). bytes_eq x.text t ≡ true) (same_text v w d) (and_right _ _ e))
within_sound (Word v) (Unlike ws) x d e =
    both_true _ _ (and_left _ _ e) (not_false _ (subst (λ (t : List ℕ). is_among ws t ≡ false) (sym (same_text x.text v (and_right _ _ e))) (not_true _ d)))
within_sound (Unlike vs) (Mark k) x d e = rank_on _ _ _ d (and_left _ _ e)
within_sound (Unlike vs) (Word w) x d e = absurd cc
within_sound (Unlike vs) (Unlike ws) x d e = both_true _ _ (and_left _ _ e) (not_false _ (fewer_words vs ws x.text d (not_true _ (and_right _ _ e))))

abbrev pub covered : Sort → List Sort → Bool
covered t [] = false
covered t (s ∷ ss) = within t s || covered t ss

abbrev pub covers : List Sort → List Sort → Bool
covers ss [] = true
covers ss (t ∷ ts) = covered t ss && covers ss ts

covered_sound : (t : Sort) (ss : List Sort) (x : Token) → covered t ss ≡ true → is_of t x ≡ true → is_in ss x ≡ true
covered_sound t [] x d e = absurd cc
covered_sound t (s ∷ ss) x d e =
    elim (or_cases (within t s) (covered t ss) d) [
      | inl h ↦ rw (within_sound t s x h e) refl
      | inr h ↦ or_true _ _ (covered_sound t ss x h e)
    ]

pub covers_sound : (ss ts : List Sort) (x : Token) → covers ss ts ≡ true → is_in ts x ≡ true → is_in ss x ≡ true
covers_sound ss [] x d e = absurd cc
covers_sound ss (t ∷ ts) x d e =
    elim (or_cases (is_of t x) (is_in ts x) e) [
      | inl h ↦ covered_sound t ss x (and_left _ _ d) h
      | inr h ↦ covers_sound ss ts x (and_right _ _ d) h
    ]

pub starts_covers : (ss ts : List Sort) (us : List Token) → covers ss ts ≡ true → starts ts us ≡ true → starts ss us ≡ true
starts_covers ss ts [] d e = absurd cc
starts_covers ss ts (x ∷ us) d e = covers_sound ss ts x d e

-- what starts none of some sorts starts none of those within
pub starts_less : (ss ts : List Sort) (us : List Token) → covers ss ts ≡ true → starts ss us ≡ false → starts ts us ≡ false
starts_less ss ts us d e = other (starts ts us) refl
  where
    other : (b : Bool) → starts ts us ≡ b → starts ts us ≡ false
    other false h = h
    other true h = let there : starts ss us ≡ true = starts_covers ss ts us d h in absurd cc

pub in_append : (ss ts : List Sort) (x : Token) → is_in (ss ++ ts) x ≡ is_in ss x || is_in ts x
in_append [] ts x = refl
in_append (s ∷ ss) ts x = ap (λ (b : Bool). is_of s x || b) (in_append ss ts x) ∙ or_assoc (is_of s x) (is_in ss x) (is_in ts x)
  where
    or_assoc : (a b c : Bool) → a || (b || c) ≡ (a || b) || c
    or_assoc true b c = refl
    or_assoc false b c = refl

pub starts_left : (ss ts : List Sort) (us : List Token) → starts (ss ++ ts) us ≡ false → starts ss us ≡ false
starts_left ss ts [] e = refl
starts_left ss ts (x ∷ us) e = or_left _ _ (sym (in_append ss ts x) ∙ e)

pub starts_right : (ss ts : List Sort) (us : List Token) → starts (ss ++ ts) us ≡ false → starts ts us ≡ false
starts_right ss ts [] e = refl
starts_right ss ts (x ∷ us) e = or_right (is_in ss x) _ (sym (in_append ss ts x) ∙ e)

pub starts_more : (ss ts : List Sort) (us : List Token) → starts ss us ≡ true → starts (ss ++ ts) us ≡ true
starts_more ss ts [] e = absurd cc
starts_more ss ts (x ∷ us) e = in_append ss ts x ∙ rw e refl

pub starts_also : (ss ts : List Sort) (us : List Token) → starts ts us ≡ true → starts (ss ++ ts) us ≡ true
starts_also ss ts [] e = absurd cc
starts_also ss ts (x ∷ us) e = in_append ss ts x ∙ or_true _ _ e
