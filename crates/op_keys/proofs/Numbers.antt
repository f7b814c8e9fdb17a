-- Numbers of identities: they are places, they stay, and equal ones are those of equal identities.
use Rattle.std.proofs.Common.{◌≡◌, ◌<◌, ◌≤◌, ◌+◌, ◌↔◌, ℕ, suc, Bool, true, false, not, cond, ◌||◌, ◌&&◌, List, [], ◌∷◌, ◌++◌, map, length, Option, Some, None, refl, sym, ap, ap₂, subst, ◌∙◌, arith, bytes_eq, if◌then◌else◌, ltb}
use Rattle.std.specs.Prelude.{fold, OnErr, OnOk}
use Rattle.std.specs.declared.result.Result.{Result}
use Rattle.std.specs.declared.result.Result.TheVariants.{Ok, Err}
use Rattle.std.specs.Bool.{Decides}
use Rattle.std.specs.List.{list_any, position_from, position, position_or_len}
use Rattle.std.proofs.lemmas.Iterator.Adapters.{position_from-zero}
use Rattle.std.proofs.lemmas.Bool.{cond_below}
use Rattle.std.proofs.lemmas.List.{map-append}
use Rattle.std.proofs.lemmas.Slice.Eq.{bytes_eq-Decides}
use Rattle.gql_tokens.proofs.Choices.{choice}
use Rattle.op_keys.specs.declared.identity.Identity.{Identity}
use Rattle.op_keys.specs.declared.keys.KeysError.{KeysError}
use Rattle.op_keys.specs.declared.keys.KeysError.TheVariants as error
use Rattle.op_keys.specs.Identities.{Identities, is_same, holds, number_of, interned}
use Rattle.op_keys.specs.Laws.{EqualNumbersForEqualIdentities}

-- ---- what is looked up in other words

module _ {K : Type 0} (f : K → Identity) (test : Identity → Bool) (own : K → Bool) (same : (k : K) → test (f k) ≡ own k) where
  pub any_map : (ks : List K) → list_any test (map f ks) ≡ list_any own ks
  any_map [] = refl
  any_map (k ∷ ks) = ap₂ (λ (a b : Bool). a || b) (same k) (any_map ks)

  pub position_map : (i : ℕ) (ks : List K) → position_from test i (map f ks) ≡ position_from own i ks
  position_map i [] = refl
  position_map i (k ∷ ks) = ap₂ (λ (b : Bool) (r : Option ℕ). cond b (Some i) r) (same k) (position_map (i + 1) ks)

put : {K : Type 0} → Bool → List K → K → List K
put found ks k = if found then ks else ks ++ k ∷ []

map_put : {K : Type 0} (f : K → Identity) (found : Bool) (ks : List K) (k : K) → map f (put found ks k) ≡ put found (map f ks) (f k)
unfolding put
map_put f true ks k = refl
map_put f false ks k = map-append f ks (k ∷ [])

-- a key more in the table is an identity more
pub interned_as : {K : Type 0} (f : K → Identity) (k : K) (own : K → Bool) → ((x : K) → is_same (f k) (f x) ≡ own x) → (ks : List K)
    → map f (if list_any own ks then ks else ks ++ k ∷ []) ≡ interned (map f ks) (f k)
unfolding put
interned_as f k own same ks =
    map_put f (list_any own ks) ks k ∙ ap (λ (b : Bool). put b (map f ks) (f k)) (sym (any_map f (is_same (f k)) own same ks))

-- ---- places

first_stays : {K : Type 0} (own : K → Bool) (k : K) → own k ≡ true → (ks : List K) → position_or_len own (ks ++ k ∷ []) ≡ position_or_len own ks
first_stays own k e [] = ap (λ (b : Bool). cond (not b) 1 0) e
first_stays own k e (x ∷ ks) = ap (λ (n : ℕ). cond (not (own x)) (1 + n) 0) (first_stays own k e ks)

put_stays : {K : Type 0} (own : K → Bool) (k : K) → own k ≡ true → (found : Bool) (ks : List K) → position_or_len own (put found ks k) ≡ position_or_len own ks
unfolding put
put_stays own k e true ks = refl
put_stays own k e false ks = first_stays own k e ks

-- the place of a key that is there is the number of its identity
pub found_as : {K : Type 0} (f : K → Identity) (k : K) (own : K → Bool) → ((x : K) → is_same (f k) (f x) ≡ own x) → (ks : List K) (n : ℕ)
    → position own ks ≡ Some n → number_of (map f ks) (f k) ≡ Some n
found_as f k own same ks n e = position_map f (is_same (f k)) own same 0 ks ∙ sym (position_from-zero own ks) ∙ e

pub fits_after : (b : Bool) (place old new : ℕ) → place < new → new ≡ old + (if b then 1 else 0) → old ≤ 4294967295 → place < 4294967296
fits_after true place old new h e l = omega (arith, h, e, l)
fits_after false place old new h e l = omega (arith, h, e, l)

pub map_length : {K : Type 0} (f : K → Identity) (ks : List K) → length (map f ks) ≡ length ks
map_length f [] = refl
map_length f (k ∷ ks) = ap suc (map_length f ks)

-- the place of a key is the number of its identity
pub number_as : {K : Type 0} (f : K → Identity) (k : K) (own : K → Bool) → ((x : K) → is_same (f k) (f x) ≡ own x) → own k ≡ true → (ks : List K)
    → position_or_len own ks < length (if list_any own ks then ks else ks ++ k ∷ [])
    → number_of (map f (if list_any own ks then ks else ks ++ k ∷ [])) (f k) ≡ Some (position_or_len own ks)
unfolding put
number_as f k own same e ks h =
    let new = put (list_any own ks) ks k in
    let stays = put_stays own k e (list_any own ks) ks in
    position_map f (is_same (f k)) own same 0 new
    ∙ sym (position_from-zero own new)
    ∙ ap (λ (n : ℕ). cond (ltb n (length new)) (Some n) None) stays
    ∙ sym (cond_below (position_or_len own ks) (length new) (Some (position_or_len own ks)) None h)

-- the same of the keys that are there then
pub number_in : {K : Type 0} (f : K → Identity) (k : K) (own : K → Bool) → ((x : K) → is_same (f k) (f x) ≡ own x) → own k ≡ true → (ks : List K) (n : ℕ) (new : List K)
    → n ≡ position_or_len own ks → new ≡ (if list_any own ks then ks else ks ++ k ∷ []) → n < length new → number_of (map f new) (f k) ≡ Some n
number_in {K} f k own same e ks n new i is h =
    let within = subst (λ (all : List K). position_or_len own ks < length all) is (subst (λ (m : ℕ). m < length new) i h) in
    ap (λ (all : List K). number_of (map f all) (f k)) is ∙ number_as f k own same e ks within ∙ ap Some (sym i)

-- ---- equal identities

pub same_means : (a b : Identity) → is_same a b ≡ true → a ≡ b
same_means a b e = parts a b (bytes_eq a.document b.document) (bytes_eq a.operation b.operation) (bytes_eq a.variables b.variables)
    (bytes_eq-Decides a.document b.document) (bytes_eq-Decides a.operation b.operation) (bytes_eq-Decides a.variables b.variables) e
  where
    made : List ℕ → List ℕ → List ℕ → Identity
    made document operation variables = record { document = document; operation = operation; variables = variables }

    parts : (a b : Identity) (p q r : Bool) → Decides p (a.document ≡ b.document) → Decides q (a.operation ≡ b.operation) → Decides r (a.variables ≡ b.variables) → (p && (q && r)) ≡ true → a ≡ b
    parts a b true true true h k l e =
        ap (λ (d : List ℕ). made d a.operation a.variables) (h.0 refl)
        ∙ ap₂ (λ (o v : List ℕ). made b.document o v) (k.0 refl) (l.0 refl)
    parts a b true true false h k l e = absurd cc
    parts a b true false r h k l e = absurd cc
    parts a b false q r h k l e = absurd cc

pub same_self : (a : Identity) → is_same a a ≡ true
same_self a =
    let d = (bytes_eq-Decides a.document a.document).1 refl in
    let o = (bytes_eq-Decides a.operation a.operation).1 refl in
    let v = (bytes_eq-Decides a.variables a.variables).1 refl in
    ap (λ (p : Bool). p && (bytes_eq a.operation a.operation && bytes_eq a.variables a.variables)) d
    ∙ ap₂ (λ (q r : Bool). true && (q && r)) o v

-- ---- refusals

pub told : (P : Type 0) (r : Result ℕ KeysError) → OnErr r P → r ≡ Err error.Numbers → P
told P (Ok x) h e = absurd cc
told P (Err y) h e = h

pub refused : (held : Bool) (r : Result ℕ KeysError) → OnOk r (held ≡ true) → (r ≡ Err error.Memory → ⊥) → held ≡ false → r ≡ Err error.Numbers
refused held (Ok x) h m e = absurd cc
refused held (Err error.Numbers) h m e = refl
refused held (Err error.Memory) h m e = absurd (m refl)

-- ---- numbers stay

stays_at : (b : Bool) (i m : ℕ) (r s : Option ℕ) → (r ≡ Some m → s ≡ Some m) → cond b (Some i) r ≡ Some m → cond b (Some i) s ≡ Some m
stays_at true i m r s h e = e
stays_at false i m r s h e = h e

stays_before : (test : Identity → Bool) (held more : Identities) (i m : ℕ) → position_from test i held ≡ Some m → position_from test i (held ++ more) ≡ Some m
stays_before test [] more i m e = absurd cc
stays_before test (x ∷ held) more i m e =
    stays_at (test x) i m (position_from test (i + 1) held) (position_from test (i + 1) (held ++ more)) (stays_before test held more (i + 1) m) e

stays : (held : Identities) (a c : Identity) (m : ℕ) → number_of held a ≡ Some m → number_of (interned held c) a ≡ Some m
stays held a c m e =
    choice (λ (all : Identities). number_of all a ≡ Some m) (holds held c) held (held ++ c ∷ []) (λ _. e) (λ _. stays_before (is_same a) held (c ∷ []) 0 m e)

all_stay : (held between : Identities) (a : Identity) (m : ℕ) → number_of held a ≡ Some m → number_of (fold interned held between) a ≡ Some m
all_stay held [] a m e = e
all_stay held (c ∷ between) a m e = all_stay (interned held c) between a m (stays held a c m e)

-- ---- equal numbers

least_at : (b : Bool) (i m : ℕ) (r : Option ℕ) → (r ≡ Some m → i + 1 ≤ m) → cond b (Some i) r ≡ Some m → i ≤ m
least_at true i m r h e = let same : i ≡ m = cc in omega (arith, same)
least_at false i m r h e = omega (arith, h e)

least : (test : Identity → Bool) (held : Identities) (i m : ℕ) → position_from test i held ≡ Some m → i ≤ m
least test [] i m e = absurd cc
least test (x ∷ held) i m e = least_at (test x) i m (position_from test (i + 1) held) (least test held (i + 1) m) e

one_at : (a b x : Identity) (p q : Bool) → is_same a x ≡ p → is_same b x ≡ q → (i n : ℕ) (r s : Option ℕ)
    → (r ≡ Some n → i + 1 ≤ n) → (s ≡ Some n → i + 1 ≤ n) → (r ≡ Some n → s ≡ Some n → a ≡ b) → cond p (Some i) r ≡ Some n → cond q (Some i) s ≡ Some n → a ≡ b
one_at a b x true true e f i n r s g h l j k = same_means a x e ∙ sym (same_means b x f)
one_at a b x true false e f i n r s g h l j k = let same : i ≡ n = cc in absurd (omega (arith, same, h k))
one_at a b x false true e f i n r s g h l j k = let same : i ≡ n = cc in absurd (omega (arith, same, g j))
one_at a b x false false e f i n r s g h l j k = l j k

one : (a b : Identity) (held : Identities) (i n : ℕ) → position_from (is_same a) i held ≡ Some n → position_from (is_same b) i held ≡ Some n → a ≡ b
one a b [] i n e f = absurd cc
one a b (x ∷ held) i n e f =
    one_at a b x (is_same a x) (is_same b x) refl refl i n (position_from (is_same a) (i + 1) held) (position_from (is_same b) (i + 1) held)
    (least (is_same a) held (i + 1) n) (least (is_same b) held (i + 1) n) (one a b held (i + 1) n) e f

some_is : (m n : ℕ) → Some m ≡ Some n → m ≡ n
some_is m n e = cc

pub equal_numbers : EqualNumbersForEqualIdentities
equal_numbers held between a b m n e f =
    let all = fold interned held between in
    let g : number_of all a ≡ Some m = all_stay held between a m e in (
      λ same. one a b all 0 m g (f ∙ ap Some (sym same)),
      λ same. some_is m n (sym g ∙ ap (number_of all) same ∙ f),
    )
