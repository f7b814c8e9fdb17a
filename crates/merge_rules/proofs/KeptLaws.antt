-- Fields that are compared with those that were kept.
use Rattle.std.proofs.Common.{◌≡◌, ℕ, ◌+◌, ◌≤◌, List, [], ◌∷◌, ◌++◌, length, take, drop, refl, ap, sym, ◌∙◌, Bool, true, false, cond, ◌&&◌, ◌||◌, not, bytes_eq, ⊎_elim, ◌⊎◌, inl, inr}
use Rattle.std.specs.Prelude.{Some, slice_get}
use Rattle.std.specs.Option.{option_map_or}
use Rattle.std.specs.List.{list_any}
use Rattle.std.specs.Ordering.{nat_cmp, is_eq}
use Rattle.std.specs.Cmp.{nat_cmp_total, eq_by_cmp_equiv}
use Rattle.std.specs.Map.{lookup}
use Rattle.std.specs.BTreeMap.{IsEmpty, is_at}
use Rattle.std.proofs.lemmas.List.{take-append-drop, take_all}
use Rattle.std.proofs.lemmas.List.Folds.{list_any-append}
use Rattle.std.proofs.lemmas.Map.Keys.{any_passes_from_place}
use Rattle.std.proofs.lemmas.Option.{slice_get_within, get_or_from_slice_get}
use Rattle.schema_model.specs.declared.schema.Schema.{Schema}
use Rattle.check_model.proofs.ListLaws.{any_congr, next_taken}
use Rattle.check_model.specs.Fields.{Placed, PlacedFields}
use Rattle.check_model.specs.Shapes.{same_shape}
use Rattle.check_model.specs.MergeRules.{same_path, differ_in_shape, ask_differently, all_may_overlap, conflict, some_conflict}
use Rattle.merge_rules.specs.Paths.{AreNumbered}
use Rattle.merge_rules.specs.Kept.{Kept, kept_at, at_odds, at_odds_with, IsAlike, IsCovered, Represents}
use Rattle.merge_rules.proofs.NumberLaws.{equal_of}
use Rattle.merge_rules.proofs.AlikeLaws.{same_before, same_behind}

-- ---- no third field tells apart two that are alike

alike_before : (s : Schema) (x y z : Placed) → IsAlike x y → conflict s x z ≡ conflict s y z
alike_before s x y z alike = λ i.
    same_path (alike.path i) z.path
    && (option_map_or (λ t. option_map_or (λ u. not (same_shape s t u)) z.type false) (alike.type i) false
    || (not (bytes_eq (alike.name i) z.name && same_before x.arguments y.arguments z.arguments alike.there alike.back i) && all_may_overlap s (alike.parents i) z.parents))

alike_behind : (s : Schema) (x y z : Placed) → IsAlike x y → conflict s z x ≡ conflict s z y
alike_behind s x y z alike = λ i.
    same_path z.path (alike.path i)
    && (option_map_or (λ t. option_map_or (λ u. not (same_shape s t u)) (alike.type i) false) z.type false
    || (not (bytes_eq z.name (alike.name i) && same_behind x.arguments y.arguments z.arguments alike.there alike.back i) && all_may_overlap s z.parents (alike.parents i)))

alike_odds : (s : Schema) (x y z : Placed) → IsAlike x y → at_odds s z x ≡ at_odds s z y
alike_odds s x y z alike = λ i. alike_behind s x y z alike i || alike_before s x y z alike i

pub covered : (s : Schema) (fields : PlacedFields) (places : List ℕ) (i place : ℕ) (x y : Placed) → slice_get places i ≡ Some place → slice_get fields place ≡ Some y → IsAlike y x
    → IsCovered s fields places x
covered s fields places i place x y place_is y_is alike = λ z odds.
    any_passes_from_place (at_odds_with s fields z) places i place place_is
    (ap (λ o. option_map_or (at_odds s z) o false) y_is ∙ alike_odds s y x z alike ∙ odds)

-- ---- one field more

or_swap : (s q p c : Bool) → ((s || q) || ((p || (c || false)) || false)) ≡ (s || (c || (p || q)))
or_swap true q p c = refl
or_swap false true true true = refl
or_swap false true true false = refl
or_swap false true false true = refl
or_swap false true false false = refl
or_swap false false true true = refl
or_swap false false true false = refl
or_swap false false false true = refl
or_swap false false false false = refl

or_twice : (a b c d : Bool) → ((a || b) || (c || d)) ≡ ((a || c) || (b || d))
or_twice true b c d = refl
or_twice false true true d = refl
or_twice false true false d = refl
or_twice false false true d = refl
or_twice false false false d = refl

any_either : {X : Type 0} (p q : X → Bool) (xs : List X) → list_any (λ x. p x || q x) xs ≡ (list_any p xs || list_any q xs)
any_either p q [] = refl
any_either p q (x ∷ xs) = ap (λ b. (p x || q x) || b) (any_either p q xs) ∙ or_twice (p x) (q x) (list_any p xs) (list_any q xs)

or_false : (b : Bool) → (b || false) ≡ b
or_false true = refl
or_false false = refl

-- a field more, which conflicts with itself or with one before it
one_more : (s : Schema) (xs : PlacedFields) (x : Placed)
    → some_conflict s (xs ++ x ∷ []) ≡ (some_conflict s xs || (conflict s x x || list_any (at_odds s x) xs))
one_more s xs x =
    list_any-append (λ a. list_any (conflict s a) (xs ++ x ∷ [])) xs (x ∷ [])
    ∙ (λ i.
    any_congr (λ a. list_any (conflict s a) (xs ++ x ∷ [])) (λ a. list_any (conflict s a) xs || (conflict s a x || false)) xs
    (λ a. list_any-append (conflict s a) xs (x ∷ [])) i
    || (list_any-append (conflict s x) xs (x ∷ []) i || false))
    ∙ ap (λ b. b || ((list_any (conflict s x) xs || (conflict s x x || false)) || false))
    (any_either (λ a. list_any (conflict s a) xs) (λ a. conflict s a x || false) xs
    ∙ ap (λ b. some_conflict s xs || b) (any_congr (λ a. conflict s a x || false) (λ a. conflict s a x) xs (λ a. or_false (conflict s a x))))
    ∙ or_swap (some_conflict s xs) (list_any (λ a. conflict s a x) xs) (list_any (conflict s x) xs) (conflict s x x)
    ∙ sym (ap (λ b. some_conflict s xs || (conflict s x x || b)) (any_either (conflict s x) (λ a. conflict s a x) xs))

taken : (fields : PlacedFields) (i : ℕ) (x : Placed) → slice_get fields i ≡ Some x → take (i + 1) fields ≡ take i fields ++ x ∷ []
taken fields i x is = next_taken fields i x (slice_get_within fields i x is) (sym (get_or_from_slice_get fields i x x is))

-- ---- a conflict is found

or_true : (b : Bool) → (b || true) ≡ true
or_true true = refl
or_true false = refl

more_case : {X : Type 0} (p q : X → Bool) (x : X) (xs : List X) (b : Bool) → ((y : X) → p y ≡ true → q y ≡ true) → p x ≡ b → (b || list_any p xs) ≡ true
    → (list_any p xs ≡ true → list_any q xs ≡ true) → (q x || list_any q xs) ≡ true
more_case p q x xs true more here is later = ap (λ b. b || list_any q xs) (more x here)
more_case p q x xs false more here is later = ap (λ b. q x || b) (later is) ∙ or_true (q x)

any_more : {X : Type 0} (p q : X → Bool) (xs : List X) → ((x : X) → p x ≡ true → q x ≡ true) → list_any p xs ≡ true → list_any q xs ≡ true
any_more p q [] more is = is
any_more p q (x ∷ xs) more is = more_case p q x xs (p x) more refl is (any_more p q xs more)

front_any : {X : Type 0} (p : X → Bool) (xs ys : List X) → list_any p xs ≡ true → list_any p (xs ++ ys) ≡ true
front_any p xs ys is = list_any-append p xs ys ∙ ap (λ b. b || list_any p ys) is

front_conflict : (s : Schema) (xs ys : PlacedFields) → some_conflict s xs ≡ true → some_conflict s (xs ++ ys) ≡ true
front_conflict s xs ys is =
    front_any (λ a. list_any (conflict s a) (xs ++ ys)) xs ys
    (any_more (λ a. list_any (conflict s a) xs) (λ a. list_any (conflict s a) (xs ++ ys)) xs (λ a. front_any (conflict s a) xs ys) is)

-- what there is among one field more
so_far : (s : Schema) (fields : PlacedFields) (numbers : List ℕ) (kept : Kept) (place n : ℕ) (x : Placed) (r : Bool) → Represents s fields numbers kept place
    → slice_get fields place ≡ Some x → slice_get numbers place ≡ Some n → r ≡ (conflict s x x || list_any (at_odds_with s fields x) (kept_at kept n))
    → some_conflict s (take (place + 1) fields) ≡ r
so_far s fields numbers kept place n x r represents x_is n_is told =
    ap (some_conflict s) (taken fields place x x_is)
    ∙ one_more s (take place fields) x
    ∙ ap (λ b. b || (conflict s x x || list_any (at_odds s x) (take place fields))) represents.none
    ∙ ap (λ b. conflict s x x || b) (represents.same place n x x_is n_is)
    ∙ sym told

pub found : (s : Schema) (fields : PlacedFields) (numbers : List ℕ) (kept : Kept) (place n : ℕ) (x : Placed) (r : Bool) → Represents s fields numbers kept place
    → slice_get fields place ≡ Some x → slice_get numbers place ≡ Some n → r ≡ (conflict s x x || list_any (at_odds_with s fields x) (kept_at kept n))
    → r ≡ true → some_conflict s fields ≡ true
found s fields numbers kept place n x r represents x_is n_is told is =
    ap (some_conflict s) (sym (take-append-drop (place + 1) fields))
    ∙ front_conflict s (take (place + 1) fields) (drop (place + 1) fields) (so_far s fields numbers kept place n x r represents x_is n_is told ∙ is)

-- ---- only fields of one path are in conflict

shared_case : (a b c d : Bool) → ((a && b) || (c && d)) ≡ true → (a ≡ true) ⊎ (c ≡ true)
shared_case true b c d is = inl refl
shared_case false b true d is = inr refl
shared_case false b false d is = absurd (cc)

one_number : (s : Schema) (fields : PlacedFields) (numbers : List ℕ) (i j m n : ℕ) (z x : Placed) → AreNumbered fields numbers → slice_get fields i ≡ Some z → slice_get fields j ≡ Some x
    → slice_get numbers i ≡ Some m → slice_get numbers j ≡ Some n → at_odds s z x ≡ true → m ≡ n
one_number s fields numbers i j m n z x numbered z_is x_is m_is n_is odds =
    ⊎_elim (λ shared. numbered i j m n z x z_is x_is m_is n_is shared) (λ shared. sym (numbered j i n m x z x_is z_is n_is m_is shared))
    (shared_case (same_path z.path x.path) (differ_in_shape s z x || (ask_differently z x && all_may_overlap s z.parents x.parents))
    (same_path x.path z.path) (differ_in_shape s x z || (ask_differently x z && all_may_overlap s x.parents z.parents)) odds)

-- ---- a field is taken in

itself : (n : ℕ) → is_eq (nat_cmp n n) ≡ true
itself n = (eq_by_cmp_equiv nat_cmp_total).refl n

next_odds : (s : Schema) (fields : PlacedFields) (numbers : List ℕ) (kept : Kept) (place i m : ℕ) (x z : Placed) → Represents s fields numbers kept place
    → slice_get fields place ≡ Some x → slice_get fields i ≡ Some z → slice_get numbers i ≡ Some m
    → list_any (at_odds s z) (take (place + 1) fields) ≡ (list_any (at_odds_with s fields z) (kept_at kept m) || at_odds s z x)
next_odds s fields numbers kept place i m x z represents x_is z_is m_is =
    ap (list_any (at_odds s z)) (taken fields place x x_is)
    ∙ list_any-append (at_odds s z) (take place fields) (x ∷ [])
    ∙ ap (λ b. b || (at_odds s z x || false)) (represents.same i m z z_is m_is)
    ∙ ap (λ b. list_any (at_odds_with s fields z) (kept_at kept m) || b) (or_false (at_odds s z x))

covered_case : (a b : Bool) → (b ≡ true → a ≡ true) → (a || b) ≡ a
covered_case true b more = refl
covered_case false true more = sym (more refl)
covered_case false false more = refl

pub covered_taken : (s : Schema) (fields : PlacedFields) (numbers : List ℕ) (kept : Kept) (place n : ℕ) (x : Placed) (r : Bool) → Represents s fields numbers kept place
    → AreNumbered fields numbers → slice_get fields place ≡ Some x → slice_get numbers place ≡ Some n
    → r ≡ (conflict s x x || list_any (at_odds_with s fields x) (kept_at kept n)) → r ≡ false
    → IsCovered s fields (kept_at kept n) x → Represents s fields numbers kept (place + 1)
covered_taken s fields numbers kept place n x r represents numbered x_is n_is told none covers = record {
  none = so_far s fields numbers kept place n x r represents x_is n_is told ∙ none;
  same = λ i m z z_is m_is.
      next_odds s fields numbers kept place i m x z represents x_is z_is m_is
      ∙ covered_case (list_any (at_odds_with s fields z) (kept_at kept m)) (at_odds s z x) (λ odds.
      ap (λ k. list_any (at_odds_with s fields z) (kept_at kept k)) (one_number s fields numbers i place m n z x numbered z_is x_is m_is n_is odds) ∙ covers z odds);
}

kept_case : (s : Schema) (fields : PlacedFields) (kept more : Kept) (place m n : ℕ) (x z : Placed) (b : Bool) → slice_get fields place ≡ Some x
    → is_eq (nat_cmp n m) ≡ b → kept_at more m ≡ cond b (kept_at kept n ++ place ∷ []) (kept_at kept m) → (at_odds s z x ≡ true → m ≡ n)
    → (list_any (at_odds_with s fields z) (kept_at kept m) || at_odds s z x) ≡ list_any (at_odds_with s fields z) (kept_at more m)
kept_case s fields kept more place m n x z true x_is same update one =
    sym (ap (list_any (at_odds_with s fields z)) update
    ∙ list_any-append (at_odds_with s fields z) (kept_at kept n) (place ∷ [])
    ∙ ap (λ k. list_any (at_odds_with s fields z) (kept_at kept k) || (at_odds_with s fields z place || false)) (equal_of n m same)
    ∙ ap (λ b. list_any (at_odds_with s fields z) (kept_at kept m) || b)
    (or_false (at_odds_with s fields z place) ∙ ap (λ o. option_map_or (at_odds s z) o false) x_is))
kept_case s fields kept more place m n x z false x_is apart update one =
    covered_case (list_any (at_odds_with s fields z) (kept_at kept m)) (at_odds s z x) (λ odds.
    let both : false ≡ true = sym apart ∙ ap (λ k. is_eq (nat_cmp n k)) (one odds) ∙ itself n in
    absurd (cc))
    ∙ sym (ap (list_any (at_odds_with s fields z)) update)

pub kept_taken : (s : Schema) (fields : PlacedFields) (numbers : List ℕ) (kept more : Kept) (place n : ℕ) (x : Placed) (r : Bool) → Represents s fields numbers kept place
    → AreNumbered fields numbers → slice_get fields place ≡ Some x → slice_get numbers place ≡ Some n
    → r ≡ (conflict s x x || list_any (at_odds_with s fields x) (kept_at kept n)) → r ≡ false
    → ((q : ℕ) → kept_at more q ≡ cond (is_eq (nat_cmp n q)) (kept_at kept n ++ place ∷ []) (kept_at kept q))
    → Represents s fields numbers more (place + 1)
kept_taken s fields numbers kept more place n x r represents numbered x_is n_is told none updates = record {
  none = so_far s fields numbers kept place n x r represents x_is n_is told ∙ none;
  same = λ i m z z_is m_is.
      next_odds s fields numbers kept place i m x z represents x_is z_is m_is
      ∙ kept_case s fields kept more place m n x z (is_eq (nat_cmp n m)) x_is refl (updates m)
      (one_number s fields numbers i place m n z x numbered z_is x_is m_is n_is);
}

-- ---- all fields

pub nothing_taken : (s : Schema) (fields : PlacedFields) (numbers : List ℕ) (kept : Kept) → ((q : ℕ) → kept_at kept q ≡ []) → Represents s fields numbers kept 0
nothing_taken s fields numbers kept empty = record {
  none = refl;
  same = λ i n x x_is n_is. sym (ap (list_any (at_odds_with s fields x)) (empty n));
}

pub all_taken : (s : Schema) (fields : PlacedFields) (numbers : List ℕ) (kept : Kept) (count : ℕ) → Represents s fields numbers kept count → length fields ≤ count
    → false ≡ some_conflict s fields
all_taken s fields numbers kept count represents all = sym represents.none ∙ ap (some_conflict s) (take_all count fields all)

pub nothing_kept : (kept : Kept) → IsEmpty kept → (q : ℕ) → kept_at kept q ≡ []
nothing_kept kept empty q = ap (λ es. option_map_or (λ places. places.items) (lookup (is_at (nat_cmp q)) es) []) empty
