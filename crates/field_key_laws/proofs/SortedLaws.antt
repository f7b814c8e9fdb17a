-- The sorted text of a value is the text of the value with its members sorted.
use Rattle.std.proofs.Common.{◌≡◌, ℕ, Bool, true, ◌&&◌, List, [], ◌∷◌, map, fold, refl, sym, ap, ap₂, ◌∙◌, subst}
use Rattle.std.specs.List.{list_all}
use Rattle.std.specs.BTreeMap.{insert_entry}
use Rattle.std.specs.declared.cmp.Ordering.TheVariants.{Less, Equal, Greater}
use Rattle.std.specs.Ordering.{match_ordering}
use Rattle.std.proofs.lemmas.Bool.{and_parts}
use Rattle.text_types.specs.Texts.{text_cmp}
use Rattle.gql_value.specs.declared.value.Value.{Value}
use Rattle.gql_value.specs.declared.value.Value.TheVariants.{Obj}
use Rattle.gql_value.specs.declared.value.Value.TheOpen.{Value-F}
use Rattle.gql_value.specs.declared.value.Value.TheViews.{roll-Value}
use Rattle.gql_value.specs.declared.value.Value.TheFolds.{fold-roll-Value, map-Value, ind-Value}
use Rattle.gql_value.specs.Text.{list_text, object_text, text_step, text_of}
use Rattle.gql_value.specs.Sorted.{by_name, sorted_step, sorted_text_of}
use Rattle.field_key_laws.specs.Values.{sorted_level, sorted_value, numbers_at, has_numbers}
use Rattle.field_key_laws.proofs.TextLaws.{texts_by_values}

-- ---- members by name

-- the same names with what a function gives of their values
abbrev named_by : {X Y : Type 0} → (X → Y) → List ℕ × X → List ℕ × Y
named_by g m = (m.0, g m.1)

insert_mapped : {X Y : Type 0} (g : X → Y) (es : List (List ℕ × X)) (k : List ℕ) (x : X) → map (named_by g) (insert_entry text_cmp es k x) ≡ insert_entry text_cmp (map (named_by g) es) k (g x)
insert_mapped g [] k x = refl
insert_mapped g (e ∷ es) k x =
    elim (text_cmp k e.0) as (λ o. map (named_by g) (match_ordering o ((k, x) ∷ e ∷ es) ((e.0, x) ∷ es) (e ∷ insert_entry text_cmp es k x))
    ≡ match_ordering o ((k, g x) ∷ named_by g e ∷ map (named_by g) es) ((e.0, g x) ∷ map (named_by g) es) (named_by g e ∷ insert_entry text_cmp (map (named_by g) es) k (g x))) [
      | Less ↦ refl
      | Equal ↦ refl
      | Greater ↦ ap (λ more. named_by g e ∷ more) (insert_mapped g es k x)
    ]

abbrev put : {X : Type 0} → List (List ℕ × X) → List ℕ × X → List (List ℕ × X)
put sorted m = insert_entry text_cmp sorted m.0 m.1

fold_mapped : {X Y : Type 0} (g : X → Y) (ms es : List (List ℕ × X)) → map (named_by g) (fold put es ms) ≡ fold put (map (named_by g) es) (map (named_by g) ms)
fold_mapped g [] es = refl
fold_mapped g (m ∷ ms) es = fold_mapped g ms (put es m) ∙ ap (λ sorted. fold put sorted (map (named_by g) ms)) (insert_mapped g es m.0 m.1)

by_name_mapped : {X Y : Type 0} (g : X → Y) (ms : List (List ℕ × X)) → map (named_by g) (by_name ms) ≡ by_name (map (named_by g) ms)
by_name_mapped g ms = fold_mapped g ms []

abbrev all_true : List (List ℕ × Bool) → Bool
all_true members = list_all (λ member. member.1) members

and_true : (a b : Bool) → a ≡ true → b ≡ true → (a && b) ≡ true
and_true a b e f = ap₂ (λ (x y : Bool). x && y) e f

insert_true : (es : List (List ℕ × Bool)) (k : List ℕ) (b : Bool) → b ≡ true → all_true es ≡ true → all_true (insert_entry text_cmp es k b) ≡ true
insert_true [] k b t a = and_true b true t refl
insert_true (e ∷ es) k b t a =
    let parts = and_parts e.1 (all_true es) a in
    elim (text_cmp k e.0) as (λ o. all_true (match_ordering o ((k, b) ∷ e ∷ es) ((e.0, b) ∷ es) (e ∷ insert_entry text_cmp es k b)) ≡ true) [
      | Less ↦ and_true b (all_true (e ∷ es)) t a
      | Equal ↦ and_true b (all_true es) t parts.1
      | Greater ↦ and_true e.1 (all_true (insert_entry text_cmp es k b)) parts.0 (insert_true es k b t parts.1)
    ]

fold_true : (ms es : List (List ℕ × Bool)) → all_true ms ≡ true → all_true es ≡ true → all_true (fold put es ms) ≡ true
fold_true [] es a b = b
fold_true (m ∷ ms) es a b =
    let parts = and_parts m.1 (all_true ms) a in
    fold_true ms (put es m) parts.1 (insert_true es m.0 m.1 parts.0 b)

-- ---- values with sorted members

-- what is claimed of a value, and the values inside with the claim
abbrev IsSortedText : Value → Type 0
IsSortedText v = sorted_text_of v ≡ text_of (sorted_value v)

abbrev Inner : Type 0
Inner = (v : Value) × IsSortedText v

abbrev inside : Inner → Value
inside e = e.0

abbrev sorted_of_level : Value-F Value → Value-F Value
sorted_of_level level = sorted_level (map-Value Value Value sorted_value level)

items_sorted : (es : List Inner) → map sorted_text_of (map inside es) ≡ map text_of (map sorted_value (map inside es))
items_sorted [] = refl
items_sorted (e ∷ es) = ap₂ (λ (t : List ℕ) (ts : List (List ℕ)). t ∷ ts) e.1 (items_sorted es)

members_sorted : (ms : List (List ℕ × Inner)) → map (named_by sorted_text_of) (map (named_by inside) ms) ≡ map (named_by text_of) (map (named_by sorted_value) (map (named_by inside) ms))
members_sorted [] = refl
members_sorted (m ∷ ms) = ap₂ (λ (t : List ℕ) (ts : List (List ℕ × List ℕ)). (m.0, t) ∷ ts) m.1.1 (members_sorted ms)

level_sorted : (y : Value-F Inner) → sorted_step (map-Value Value (List ℕ) sorted_text_of (map-Value Inner Value inside y)) ≡ text_step (map-Value Value (List ℕ) text_of (sorted_of_level (map-Value Inner Value inside y)))
level_sorted Value-F.Null = refl
level_sorted (Value-F.Bool b) = refl
level_sorted (Value-F.Int n) = refl
level_sorted (Value-F.Text s) = refl
level_sorted (Value-F.List es) = ap list_text (items_sorted es)
level_sorted (Value-F.Obj ms) =
    ap object_text (ap by_name (members_sorted ms) ∙ sym (by_name_mapped text_of (map (named_by sorted_value) (map (named_by inside) ms))))

abbrev sort_step : Value-F Value → Value
sort_step level = roll-Value (sorted_level level)

pub sorted_is_text : (v : Value) → sorted_text_of v ≡ text_of (sorted_value v)
sorted_is_text = ind-Value IsSortedText (λ x y is.
    fold-roll-Value (List ℕ) sorted_step x
    ∙ subst (λ (z : Value-F Value). sorted_step (map-Value Value (List ℕ) sorted_text_of z) ≡ text_step (map-Value Value (List ℕ) text_of (sorted_of_level z))) is (level_sorted y)
    ∙ sym (fold-roll-Value (List ℕ) text_step (sorted_of_level x))
    ∙ ap text_of (sym (fold-roll-Value Value sort_step x)))

-- ---- their numbers

abbrev KeepsNumbers : Value → Type 0
KeepsNumbers v = has_numbers v ≡ true → has_numbers (sorted_value v) ≡ true

abbrev Kept : Type 0
Kept = (v : Value) × KeepsNumbers v

abbrev kept_inside : Kept → Value
kept_inside e = e.0

items_kept : (es : List Kept) → list_all (λ item. item) (map has_numbers (map kept_inside es)) ≡ true → list_all (λ item. item) (map has_numbers (map sorted_value (map kept_inside es))) ≡ true
items_kept [] h = refl
items_kept (e ∷ es) h =
    let parts = and_parts (has_numbers e.0) (list_all (λ item. item) (map has_numbers (map kept_inside es))) h in
    and_true (has_numbers (sorted_value e.0)) (list_all (λ item. item) (map has_numbers (map sorted_value (map kept_inside es)))) (e.1 parts.0) (items_kept es parts.1)

members_kept : (ms : List (List ℕ × Kept)) → all_true (map (named_by has_numbers) (map (named_by kept_inside) ms)) ≡ true → all_true (map (named_by has_numbers) (map (named_by sorted_value) (map (named_by kept_inside) ms))) ≡ true
members_kept [] h = refl
members_kept (m ∷ ms) h =
    let parts = and_parts (has_numbers m.1.0) (all_true (map (named_by has_numbers) (map (named_by kept_inside) ms))) h in
    and_true (has_numbers (sorted_value m.1.0)) (all_true (map (named_by has_numbers) (map (named_by sorted_value) (map (named_by kept_inside) ms)))) (m.1.1 parts.0) (members_kept ms parts.1)

level_kept : (y : Value-F Kept) → numbers_at (map-Value Value Bool has_numbers (map-Value Kept Value kept_inside y)) ≡ true → numbers_at (map-Value Value Bool has_numbers (sorted_of_level (map-Value Kept Value kept_inside y))) ≡ true
level_kept Value-F.Null h = refl
level_kept (Value-F.Bool b) h = refl
level_kept (Value-F.Int n) h = h
level_kept (Value-F.Text s) h = refl
level_kept (Value-F.List es) h = items_kept es h
level_kept (Value-F.Obj ms) h =
    let sorted = map (named_by sorted_value) (map (named_by kept_inside) ms) in
    ap all_true (by_name_mapped has_numbers sorted) ∙ fold_true (map (named_by has_numbers) sorted) [] (members_kept ms h) refl

numbers_kept : (v : Value) → has_numbers v ≡ true → has_numbers (sorted_value v) ≡ true
numbers_kept = ind-Value KeepsNumbers (λ x y is h.
    ap has_numbers (fold-roll-Value Value sort_step x)
    ∙ fold-roll-Value Bool numbers_at (sorted_of_level x)
    ∙ subst (λ (z : Value-F Value). numbers_at (map-Value Value Bool has_numbers z) ≡ true → numbers_at (map-Value Value Bool has_numbers (sorted_of_level z)) ≡ true) is (level_kept y) (sym (fold-roll-Value Bool numbers_at x) ∙ h))

-- ---- equal sorted texts

pub sorted_texts_by_values : (v w : Value) → has_numbers v ≡ true → has_numbers w ≡ true → sorted_text_of v ≡ sorted_text_of w → sorted_value v ≡ sorted_value w
sorted_texts_by_values v w h k e = texts_by_values (sorted_value v) (sorted_value w) (numbers_kept v h) (numbers_kept w k) (sym (sorted_is_text v) ∙ e ∙ sorted_is_text w)

pub sorted_texts_of_values : (v w : Value) → sorted_value v ≡ sorted_value w → sorted_text_of v ≡ sorted_text_of w
sorted_texts_of_values v w e = sorted_is_text v ∙ ap text_of e ∙ sym (sorted_is_text w)

-- ---- objects with and without members

abbrev second_byte : List ℕ → ℕ
second_byte [] = 0
second_byte (a ∷ []) = 0
second_byte (a ∷ b ∷ bs) = b

mark_second : (m : List ℕ × List ℕ) (ms : List (List ℕ × List ℕ)) → second_byte (object_text (m ∷ ms)) ≡ 34
mark_second m [] = refl
mark_second m (n ∷ ms) = refl

mark_behind : (xs : List (List ℕ × List ℕ)) (e : List ℕ × List ℕ) (es : List (List ℕ × List ℕ)) → second_byte (object_text (fold put (e ∷ es) xs)) ≡ 34
mark_behind [] e es = mark_second e es
mark_behind (x ∷ xs) e es =
    elim (text_cmp x.0 e.0) as (λ o. second_byte (object_text (fold put (match_ordering o ((x.0, x.1) ∷ e ∷ es) ((e.0, x.1) ∷ es) (e ∷ insert_entry text_cmp es x.0 x.1)) xs)) ≡ 34) [
      | Less ↦ mark_behind xs (x.0, x.1) (e ∷ es)
      | Equal ↦ mark_behind xs (e.0, x.1) es
      | Greater ↦ mark_behind xs e (insert_entry text_cmp es x.0 x.1)
    ]

-- the sorted text of an object with members isn't that of one without
pub none_and_some : (m : List ℕ × Value) (ms : List (List ℕ × Value)) → sorted_text_of (Obj []) ≡ sorted_text_of (Obj (m ∷ ms)) → ⊥
unfolding roll-Value denote.Hole.Carrier.roll
none_and_some m ms e =
    let named = named_by sorted_text_of m in
    let own : second_byte (sorted_text_of (Obj (m ∷ ms))) ≡ 34 = ap second_byte (fold-roll-Value (List ℕ) sorted_step (Value-F.Obj (m ∷ ms))) ∙ mark_behind (map (named_by sorted_text_of) ms) named [] in
    let none : second_byte (sorted_text_of (Obj [])) ≡ 125 = ap second_byte (fold-roll-Value (List ℕ) sorted_step (Value-F.Obj [])) in
    let bad : ◌≡◌ {A = ℕ} 125 34 = sym none ∙ ap second_byte e ∙ own in
    absurd cc
