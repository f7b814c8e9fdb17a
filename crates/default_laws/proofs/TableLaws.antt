-- Names in tables of pairs.
use Rattle.std.proofs.Common.{◌≡◌, ℕ, zero, suc, ◌+◌, Bool, true, false, List, [], ◌∷◌, refl, ap, sym, ◌∙◌, subst, arith, zero-add, inl, inr, ◌⊎◌, cond, bytes_eq}
use Rattle.std.specs.Prelude.{Option, None, Some, slice_get}
use Rattle.std.specs.List.{AllByRecursion, IsDistinct, position_from, filter_map, cons_option}
use Rattle.std.specs.Option.{option_map}
use Rattle.std.specs.Cmp.Lexicographic.{nat_list_eq_equiv}
use Rattle.std.proofs.lemmas.Option.{same_Some}
use Rattle.std.proofs.lemmas.Slice.Eq.{bytes_eq-Decides}
use Rattle.text_types.specs.Names.{names_of, HasDistinctNames}
use Rattle.schema_model.specs.Tables.{place_of, entry}

abbrev Pairs : Type 0 → Type 0
Pairs X = List (List ℕ × X)

abbrev has_name : {X : Type 0} → List ℕ → List ℕ × X → Bool
has_name name p = bytes_eq name p.0

pub text_itself : (a : List ℕ) → bytes_eq a a ≡ true
text_itself a = (bytes_eq-Decides a a).1 refl

-- ---- a name that is found, with its place and its pair

pub record FoundFrom {X : Type 0} (name : List ℕ) (start : ℕ) (pairs : Pairs X) : Type 0 where
  pub place : ℕ
  pub pair : List ℕ × X
  pub placed : position_from (has_name name) start pairs ≡ Some (start + place)
  pub there : slice_get pairs place ≡ Some pair
  pub value : entry pairs name ≡ Some pair.1
  pub same_name : name ≡ pair.0

pub record Found {X : Type 0} (name : List ℕ) (pairs : Pairs X) : Type 0 where
  pub place : ℕ
  pub pair : List ℕ × X
  pub placed : place_of pairs name ≡ Some place
  pub there : slice_get pairs place ≡ Some pair
  pub value : entry pairs name ≡ Some pair.1
  pub same_name : name ≡ pair.0

abbrev IsMissing : {X : Type 0} → List ℕ → ℕ → Pairs X → Type 0
IsMissing name start pairs = (position_from (has_name name) start pairs ≡ None) × (entry pairs name ≡ None)

found_step : {X : Type 0} (name : List ℕ) (start : ℕ) (p : List ℕ × X) (ps : Pairs X) → FoundFrom name (start + 1) ps ⊎ IsMissing name (start + 1) ps
    → (b : Bool) → bytes_eq name p.0 ≡ b → FoundFrom name start (p ∷ ps) ⊎ IsMissing name start (p ∷ ps)
found_step name start p ps later true is =
    let e : start ≡ start + 0 = omega arith in
    inl (record {
      place = 0;
      pair = p;
      placed = ap (λ (b : Bool). cond b (Some start) (position_from (has_name name) (start + 1) ps)) is ∙ ap Some e;
      there = refl;
      value = ap (λ (b : Bool). cond b (Some p.1) (entry ps name)) is;
      same_name = (bytes_eq-Decides name p.0).0 is;
    })
found_step name start p ps (inl f) false is =
    let e : start + 1 + f.place ≡ start + suc f.place = omega arith in
    inl (record {
      place = suc f.place;
      pair = f.pair;
      placed = ap (λ (b : Bool). cond b (Some start) (position_from (has_name name) (start + 1) ps)) is ∙ f.placed ∙ ap Some e;
      there = f.there;
      value = ap (λ (b : Bool). cond b (Some p.1) (entry ps name)) is ∙ f.value;
      same_name = f.same_name;
    })
found_step name start p ps (inr m) false is =
    inr (ap (λ (b : Bool). cond b (Some start) (position_from (has_name name) (start + 1) ps)) is ∙ m.0, ap (λ (b : Bool). cond b (Some p.1) (entry ps name)) is ∙ m.1)

found_from : {X : Type 0} (name : List ℕ) (start : ℕ) (ps : Pairs X) → FoundFrom name start ps ⊎ IsMissing name start ps
found_from name start [] = inr (refl, refl)
found_from name start (p ∷ ps) = found_step name start p ps (found_from name (start + 1) ps) (bytes_eq name p.0) refl

pub found_or_not : {X : Type 0} (name : List ℕ) (ps : Pairs X) → Found name ps ⊎ ((place_of ps name ≡ None) × (entry ps name ≡ None))
found_or_not name ps = elim (found_from name 0 ps) [
  | inl f ↦ inl (record { place = f.place; pair = f.pair; placed = f.placed ∙ ap Some (zero-add f.place); there = f.there; value = f.value; same_name = f.same_name })
  | inr m ↦ inr m
]

-- ---- a pair of a table is the one of its name

apart_at : {X : Type 0} (name : List ℕ) (ps : Pairs X) (at : ℕ) (p : List ℕ × X) → AllByRecursion (λ n. bytes_eq name n ≡ false) (names_of ps) → slice_get ps at ≡ Some p → bytes_eq name p.0 ≡ false
apart_at name [] at p apart is = absurd (cc)
apart_at {X} name (q ∷ ps) zero p (here, more) is = ap (λ (r : List ℕ × X). bytes_eq name r.0) (sym (same_Some q p is)) ∙ here
apart_at name (q ∷ ps) (suc at) p (here, more) is = apart_at name ps at p more is

pub own_entry : {X : Type 0} (ps : Pairs X) (at : ℕ) (p : List ℕ × X) → HasDistinctNames ps → slice_get ps at ≡ Some p → entry ps p.0 ≡ Some p.1
unfolding IsDistinct
own_entry [] at p distinct is = absurd (cc)
own_entry {X} (q ∷ ps) zero p distinct is =
    subst (λ (r : List ℕ × X). entry (q ∷ ps) r.0 ≡ Some r.1) (same_Some q p is) (ap (λ (b : Bool). cond b (Some q.1) (entry ps q.0)) (text_itself q.0))
own_entry (q ∷ ps) (suc at) p (apart, distinct) is =
    ap (λ (b : Bool). cond b (Some q.1) (entry ps p.0)) (nat_list_eq_equiv.symm p.0 q.0 ∙ apart_at q.0 ps at p apart is)
    ∙ own_entry ps at p distinct is

-- ---- what is kept of a table

-- what is made of a pair keeps its name
abbrev pub KeepsNames : {X Y : Type 0} → (List ℕ × X → Option (List ℕ × Y)) → Type 0
KeepsNames {X} {Y} f = (p : List ℕ × X) (q : List ℕ × Y) → f p ≡ Some q → q.0 ≡ p.0

skipped : {Y : Type 0} (name : List ℕ) (o : Option (List ℕ × Y)) (rest : Pairs Y) → ((q : List ℕ × Y) → o ≡ Some q → bytes_eq name q.0 ≡ false)
    → entry (cons_option o rest) name ≡ entry rest name
skipped name None rest apart = refl
skipped name (Some q) rest apart = ap (λ (b : Bool). cond b (Some q.1) (entry rest name)) (apart q refl)

lacks_kept : {X Y : Type 0} (f : List ℕ × X → Option (List ℕ × Y)) → KeepsNames f → (name : List ℕ) (ps : Pairs X) → AllByRecursion (λ n. bytes_eq name n ≡ false) (names_of ps)
    → entry (filter_map f ps) name ≡ None
lacks_kept f keeps name [] apart = refl
lacks_kept f keeps name (p ∷ ps) (here, more) =
    skipped name (f p) (filter_map f ps) (λ q is. ap (bytes_eq name) (keeps p q is) ∙ here) ∙ lacks_kept f keeps name ps more

first_kept : {X Y : Type 0} (p : List ℕ × X) (o : Option (List ℕ × Y)) (rest : Pairs Y) → ((q : List ℕ × Y) → o ≡ Some q → q.0 ≡ p.0) → entry rest p.0 ≡ None
    → entry (cons_option o rest) p.0 ≡ option_map (λ (r : List ℕ × Y). r.1) o
first_kept p None rest keeps none = none
first_kept p (Some q) rest keeps none = ap (λ (b : Bool). cond b (Some q.1) (entry rest p.0)) (ap (bytes_eq p.0) (keeps q refl) ∙ text_itself p.0)

-- the value of a pair's name is what is made of the pair
pub kept : {X Y : Type 0} (f : List ℕ × X → Option (List ℕ × Y)) → KeepsNames f → (ps : Pairs X) (at : ℕ) (p : List ℕ × X) → HasDistinctNames ps → slice_get ps at ≡ Some p
    → entry (filter_map f ps) p.0 ≡ option_map (λ (r : List ℕ × Y). r.1) (f p)
unfolding IsDistinct
kept f keeps [] at p distinct is = absurd (cc)
kept {X} {Y} f keeps (q ∷ ps) zero p (apart, distinct) is =
    subst (λ (r : List ℕ × X). entry (filter_map f (q ∷ ps)) r.0 ≡ option_map (λ (s : List ℕ × Y). s.1) (f r)) (same_Some q p is)
    (first_kept q (f q) (filter_map f ps) (keeps q) (lacks_kept f keeps q.0 ps apart))
kept f keeps (q ∷ ps) (suc at) p (apart, distinct) is =
    skipped p.0 (f q) (filter_map f ps) (λ r made. ap (bytes_eq p.0) (keeps q r made) ∙ nat_list_eq_equiv.symm p.0 q.0 ∙ apart_at q.0 ps at p apart is)
    ∙ kept f keeps ps at p distinct is

-- two ways of keeping that agree on each pair
pub same_kept : {X Y : Type 0} (f g : X → Option Y) (xs : List X) → ((at : ℕ) (x : X) → slice_get xs at ≡ Some x → f x ≡ g x) → filter_map f xs ≡ filter_map g xs
same_kept f g [] same = refl
same_kept {X} {Y} f g (x ∷ xs) same =
    ap (λ (o : Option Y). cons_option o (filter_map f xs)) (same 0 x refl) ∙ ap (cons_option (g x)) (same_kept f g xs (λ at y is. same (suc at) y is))

-- ---- what holds of each

pub all_at : {X : Type 0} (P : X → Type 0) (xs : List X) (at : ℕ) (x : X) → AllByRecursion P xs → slice_get xs at ≡ Some x → P x
all_at P [] at x all is = absurd (cc)
all_at P (y ∷ xs) zero x (here, more) is = subst P (same_Some y x is) here
all_at P (y ∷ xs) (suc at) x (here, more) is = all_at P xs at x more is
