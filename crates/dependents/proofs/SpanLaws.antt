-- The cells that a write covers stand in its span.
use Rattle.std.proofs.Common.{◌≡◌, Option, ℕ, Bool, true, false, ◌==◌, not, cond, List, [], ◌∷◌, ◌++◌, refl, sym, ◌∙◌, ap, ⊎_elim, ◌⊎◌, inl, inr, take, length, arith, bytes_eq, unwrap_or, ◌+◌, ◌<◌, ◌≤◌, zero, suc, Some, None}
use Rattle.std.specs.List.{position_or_len}
use Rattle.std.specs.Option.{is_some}
use Rattle.std.specs.Ordering.{nat_cmp, bool_cmp, ordering_then, is_le, is_gt}
use Rattle.std.specs.declared.cmp.Ordering.{Ordering}
use Rattle.std.specs.declared.cmp.Ordering.TheVariants.{Less, Equal, Greater}
use Rattle.std.specs.declared.ops.Bound.TheVariants.{Included, Excluded}
use Rattle.std.specs.BTreeMap.Range.{range_contains}
use Rattle.std.specs.Cmp.{nat_cmp_total, tied_itself}
use Rattle.std.specs.Cmp.Lexicographic.{texts_ties}
use Rattle.std.proofs.lemmas.Bool.{false≢true, and_from, cases_Bool, cases_lt, cond-true, cond-false, lt-ltb, le-ltb, eqb-true, not_from_true, not_from_false}
use Rattle.std.proofs.lemmas.List.Sums.{prefix_len-le-length}
use Rattle.text_types.specs.Texts.{text_cmp}
use Rattle.cache_model.specs.declared.cell.Cell.{Cell}
use Rattle.cache_model.specs.declared.write.Write.{Write}
use Rattle.cache_model.specs.declared.write.Write.TheVariants.{Set, Drop, DropName, DropAll}
use Rattle.cache_model.specs.Keys.{field_name_of}
use Rattle.cache_model.specs.Maps.{covers}
use Rattle.dependents.specs.declared.place.Place.{Place}
use Rattle.dependents.specs.Places.{place_cmp}
use Rattle.dependents.specs.Spans.{first_place, start_of, end_of}
use Rattle.dependents.proofs.PlaceLaws.{same_text, text_itself}

one_more : (n : ℕ) → 1 + n ≡ suc n
one_more n = omega arith

number_itself : (b : ℕ) → nat_cmp b b ≡ Equal
number_itself b = tied_itself nat_cmp_total b

-- a text stands before each text that it begins
longer_is_after : (text : List ℕ) (b : ℕ) (bs : List ℕ) → text_cmp (text ++ b ∷ bs) text ≡ Greater
longer_is_after [] b bs = refl
longer_is_after (a ∷ text) b bs = ap (λ o. ordering_then o (text_cmp (text ++ b ∷ bs) text)) (number_itself a) ∙ longer_is_after text b bs

begins_before : (text : List ℕ) (b : ℕ) (bs : List ℕ) → text_cmp text (text ++ b ∷ bs) ≡ Less
begins_before [] b bs = refl
begins_before (a ∷ text) b bs = ap (λ o. ordering_then o (text_cmp text (text ++ b ∷ bs))) (number_itself a) ∙ begins_before text b bs

-- the bytes before the first `(` of a field key
front : List ℕ → List ℕ
front field = take (position_or_len (λ b. b == 40) field) field

name_is_front : (field : List ℕ) → field_name_of field ≡ front field
unfolding front
name_is_front field =
    let n = position_or_len (λ b. b == 40) field in
    ap (λ k. take k field)
    (⊎_elim
    (λ (within : n < length field). ap (λ o. unwrap_or o (length field)) (cond-true _ _ _ (lt-ltb n (length field) within)))
    (λ (past : length field ≤ n).
    ap (λ o. unwrap_or o (length field)) (cond-false _ _ _ (le-ltb n (length field) past))
    ∙ omega (arith, past, prefix_len-le-length (λ b. not (b == 40)) field))
    (cases_lt n (length field)))

-- a field key stands at its name or behind it
front_is_first : (field : List ℕ) → is_gt (text_cmp (front field) field) ≡ false
unfolding front
front_is_first [] = refl
front_is_first (b ∷ field) =
    ⊎_elim
    (λ yes. ap (λ k. is_gt (text_cmp (take k (b ∷ field)) (b ∷ field))) (cond-false _ _ _ (not_from_true (b == 40) yes)))
    (λ no.
    ap (λ k. is_gt (text_cmp (take k (b ∷ field)) (b ∷ field))) (cond-true _ _ _ (not_from_false (b == 40) no) ∙ one_more _)
    ∙ ap (λ o. is_gt (ordering_then o (text_cmp (front field) field))) (number_itself b)
    ∙ front_is_first field)
    (cases_Bool (b == 40))

-- and before the name with a `)`
front_is_past : (field : List ℕ) → text_cmp (front field ++ 41 ∷ []) field ≡ Greater
unfolding front
front_is_past [] = refl
front_is_past (b ∷ field) =
    ⊎_elim
    (λ yes.
    ap (λ k. text_cmp (take k (b ∷ field) ++ 41 ∷ []) (b ∷ field)) (cond-false _ _ _ (not_from_true (b == 40) yes))
    ∙ ap (λ x. text_cmp (41 ∷ []) (x ∷ field)) (eqb-true b 40 yes))
    (λ no.
    ap (λ k. text_cmp (take k (b ∷ field) ++ 41 ∷ []) (b ∷ field)) (cond-true _ _ _ (not_from_false (b == 40) no) ∙ one_more _)
    ∙ ap (λ o. ordering_then o (text_cmp (front field ++ 41 ∷ []) field)) (number_itself b)
    ∙ front_is_past field)
    (cases_Bool (b == 40))

zero_or_more : (n : ℕ) → (n ≡ 0) ⊎ (0 < n)
zero_or_more zero = inl refl
zero_or_more (suc n) = inr (omega arith)

-- a place isn't before the first place of its own field, or of one before it
le_same_field : (p : Place) → is_le (ordering_then (nat_cmp 0 p.sub) (bool_cmp false p.turn)) ≡ true
le_same_field p = first_query p.sub p.turn
  where
    first_turn : (turn : Bool) → is_le (bool_cmp false turn) ≡ true
    first_turn true = refl
    first_turn false = refl

    first_query : (sub : ℕ) (turn : Bool) → is_le (ordering_then (nat_cmp 0 sub) (bool_cmp false turn)) ≡ true
    first_query sub turn =
        ⊎_elim
        (λ none. ap (λ n. is_le (ordering_then (nat_cmp 0 n) (bool_cmp false turn))) none ∙ first_turn turn)
        (λ (some : 0 < sub). ap (λ b. is_le (ordering_then (cond b Less (cond (0 == sub) Equal Greater)) (bool_cmp false turn))) (lt-ltb 0 sub some))
        (zero_or_more sub)

le_then : (o r : Ordering) → is_gt o ≡ false → is_le r ≡ true → is_le (ordering_then o r) ≡ true
le_then Less r not_after le = refl
le_then Equal r not_after le = le
le_then Greater r not_after le = absurd (false≢true (sym not_after))

-- within an entity: from a field that isn't after the place's
starts_before : (p : Place) (entity field : List ℕ) → entity ≡ p.entity → is_gt (text_cmp field p.field) ≡ false
    → is_le (place_cmp (first_place entity field) p) ≡ true
starts_before p entity field same not_after =
    ap (λ e. is_le (ordering_then (text_cmp e p.entity) (ordering_then (text_cmp field p.field) (ordering_then (nat_cmp 0 p.sub) (bool_cmp false p.turn))))) same
    ∙ ap (λ o. is_le (ordering_then o (ordering_then (text_cmp field p.field) (ordering_then (nat_cmp 0 p.sub) (bool_cmp false p.turn))))) (text_itself p.entity)
    ∙ le_then (text_cmp field p.field) _ not_after (le_same_field p)

-- and before a field that is after the place's
ends_after : (p : Place) (entity field : List ℕ) → entity ≡ p.entity → text_cmp field p.field ≡ Greater
    → is_le (place_cmp (first_place entity field) p) ≡ false
ends_after p entity field same after =
    ap (λ e. is_le (ordering_then (text_cmp e p.entity) (ordering_then (text_cmp field p.field) (ordering_then (nat_cmp 0 p.sub) (bool_cmp false p.turn))))) same
    ∙ ap (λ o. is_le (ordering_then o (ordering_then (text_cmp field p.field) (ordering_then (nat_cmp 0 p.sub) (bool_cmp false p.turn))))) (text_itself p.entity)
    ∙ ap (λ o. is_le (ordering_then o (ordering_then (nat_cmp 0 p.sub) (bool_cmp false p.turn)))) after

ends_after_entity : (p : Place) (entity : List ℕ) → entity ≡ p.entity
    → is_le (place_cmp (first_place (entity ++ 0 ∷ []) []) p) ≡ false
ends_after_entity p entity same =
    ap (λ e. is_le (ordering_then (text_cmp (e ++ 0 ∷ []) p.entity) (ordering_then (text_cmp [] p.field) (ordering_then (nat_cmp 0 p.sub) (bool_cmp false p.turn))))) same
    ∙ ap (λ o. is_le (ordering_then o (ordering_then (text_cmp [] p.field) (ordering_then (nat_cmp 0 p.sub) (bool_cmp false p.turn))))) (longer_is_after p.entity 0 [])

empty_is_first : (text : List ℕ) → is_gt (text_cmp [] text) ≡ false
empty_is_first [] = refl
empty_is_first (b ∷ text) = refl

itself_is_first : (text other : List ℕ) → text ≡ other → is_gt (text_cmp text other) ≡ false
itself_is_first text other same = ap (λ t. is_gt (text_cmp t other)) same ∙ ap is_gt (text_itself other)

next_is_after : (text other : List ℕ) → text ≡ other → text_cmp (text ++ 0 ∷ []) other ≡ Greater
next_is_after text other same = ap (λ t. text_cmp (t ++ 0 ∷ []) other) same ∙ longer_is_after other 0 []

-- what is covered has equal texts
equal_texts : (a b : List ℕ) → bytes_eq a b ≡ true → a ≡ b
equal_texts a b is = same_text a b (sym (texts_ties a b) ∙ is)

-- within the two bounds
abbrev IsWithin : Write → Place → Type 0
IsWithin write p = range_contains place_cmp (Included (start_of write)) (Excluded (end_of write)) p ≡ true

within : (write : Write) (p : Place) → is_le (place_cmp (start_of write) p) ≡ true → is_le (place_cmp (end_of write) p) ≡ false → IsWithin write p
within write p start end = and_from (is_le (place_cmp (start_of write) p)) (not (is_le (place_cmp (end_of write) p))) start (not_from_false _ end)

-- a test of two conditions that gave some answer
both_hold : (a b : Bool) (X : Type 0) (x : X) → is_some (cond a (cond b (Some x) None) None) ≡ true → (a ≡ true) × (b ≡ true)
both_hold true true X x is = (refl, refl)
both_hold true false X x is = absurd (false≢true is)
both_hold false b X x is = absurd (false≢true is)

one_holds : (a : Bool) (X : Type 0) (x : X) → is_some (cond a (Some x) None) ≡ true → a ≡ true
one_holds true X x is = refl
one_holds false X x is = absurd (false≢true is)

pub covered_within : (write : Write) (p : Place) → covers write p.entity p.field ≡ true → IsWithin write p
covered_within (Set entity field cell) p is =
    let both = both_hold (bytes_eq entity p.entity) (bytes_eq field p.field) _ (Some cell) is in
    let here = equal_texts entity p.entity both.0 in
    let there = equal_texts field p.field both.1 in
    within (Set entity field cell) p (starts_before p entity field here (itself_is_first field p.field there)) (ends_after p entity (field ++ 0 ∷ []) here (next_is_after field p.field there))
covered_within (Drop entity field) p is =
    let both = both_hold (bytes_eq entity p.entity) (bytes_eq field p.field) (Option Cell) None is in
    let here = equal_texts entity p.entity both.0 in
    let there = equal_texts field p.field both.1 in
    within (Drop entity field) p (starts_before p entity field here (itself_is_first field p.field there)) (ends_after p entity (field ++ 0 ∷ []) here (next_is_after field p.field there))
covered_within (DropName entity name) p is =
    let both = both_hold (bytes_eq entity p.entity) (bytes_eq name (field_name_of p.field)) (Option Cell) None is in
    let here = equal_texts entity p.entity both.0 in
    let there : name ≡ front p.field = equal_texts name (field_name_of p.field) both.1 ∙ name_is_front p.field in
    within (DropName entity name) p
    (starts_before p entity name here (ap (λ n. is_gt (text_cmp n p.field)) there ∙ front_is_first p.field))
    (ends_after p entity (name ++ 41 ∷ []) here (ap (λ n. text_cmp (n ++ 41 ∷ []) p.field) there ∙ front_is_past p.field))
covered_within (DropAll entity) p is =
    let here = equal_texts entity p.entity (one_holds (bytes_eq entity p.entity) (Option Cell) None is) in
    within (DropAll entity) p (starts_before p entity [] here (empty_is_first p.field)) (ends_after_entity p entity here)

-- the span of a write goes forward
field_forward : (entity field : List ℕ) (b : ℕ) → is_gt (place_cmp (first_place entity field) (first_place entity (field ++ b ∷ []))) ≡ false
field_forward entity field b =
    ap (λ o. is_gt (ordering_then o (ordering_then (text_cmp field (field ++ b ∷ [])) Equal))) (text_itself entity)
    ∙ ap (λ o. is_gt (ordering_then o Equal)) (begins_before field b [])

pub forward : (write : Write) → is_gt (place_cmp (start_of write) (end_of write)) ≡ false
forward (Set entity field cell) = field_forward entity field 0
forward (Drop entity field) = field_forward entity field 0
forward (DropName entity name) = field_forward entity name 41
forward (DropAll entity) = ap (λ o. is_gt (ordering_then o Equal)) (begins_before entity 0 [])
