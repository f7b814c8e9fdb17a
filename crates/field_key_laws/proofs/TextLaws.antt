-- Equal texts come from equal values: the first byte tells what a text is, and a comma or a closing bracket where it ends.
use Rattle.std.proofs.Common.{◌≡◌, ◌≢◌, ℕ, suc, ◌+◌, ◌%◌, ◌^◌, ◌<◌, ◌≤◌, ◌-◌, ◌==◌, ◌||◌, Bool, true, false, if◌then◌else◌, nat_lt, pos, negsuc, unsigned_abs, decimal, List, [], ◌∷◌, ◌++◌, map, refl, sym, ap, ap₂, ◌∙◌, subst, arith, append_assoc, append-nil, ltb-true, true≢false}
use Rattle.std.specs.List.{list_all, AllByRecursion}
use Rattle.std.specs.Str.Parse.{digits_value}
use Rattle.std.proofs.lemmas.Bool.{and_parts}
use Rattle.std.proofs.lemmas.Bool.Decides.{nat_tests}
use Rattle.std.proofs.lemmas.Fmt.{decimal_is_IsNumeral, decimal_by_steps}
use Rattle.gql_value.specs.declared.value.Value.{Value}
use Rattle.gql_value.specs.declared.value.Value.TheOpen.{Value-F}
use Rattle.gql_value.specs.declared.value.Value.TheViews.{roll-Value}
use Rattle.gql_value.specs.declared.value.Value.TheFolds.{fold-roll-Value, map-Value, ind-Value}
use Rattle.gql_value.specs.Text.{quoted, joined, list_text, member_text, object_text, text_step, text_of}
use Rattle.field_key_laws.specs.Values.{numbers_at, has_numbers}
use Rattle.entity_keys.proofs.Splits.{heads, tails, conses}
use Rattle.field_key_laws.proofs.CodeLaws.{quoted_same}

-- ---- where texts end

-- a comma, a closing bracket or a closing brace
abbrev is_end : ℕ → Bool
is_end b = b == 44 || (b == 93 || b == 125)

-- the text is empty or begins with such a byte
abbrev Ends : List ℕ → Type 0
Ends [] = Unit {0}
Ends (b ∷ bs) = is_end b ≡ true

-- none of its bytes is one
abbrev IsPlain : List ℕ → Type 0
IsPlain xs = AllByRecursion (λ b. is_end b ≡ false) xs

ends_here : (y : ℕ) (r ys : List ℕ) → is_end y ≡ false → Ends r → r ≡ y ∷ ys → ⊥
ends_here y r ys n a e =
    let end : is_end y ≡ true = subst Ends e a in
    true≢false (sym end ∙ n)

plain_same : (xs ys r q : List ℕ) → IsPlain xs → IsPlain ys → Ends r → Ends q → xs ++ r ≡ ys ++ q → (xs ≡ ys) × (r ≡ q)
plain_same [] [] r q a b c d e = (refl, e)
plain_same [] (y ∷ ys) r q a b c d e = absurd (ends_here y r (ys ++ q) b.0 c e)
plain_same (x ∷ xs) [] r q a b c d e = absurd (ends_here x q (xs ++ r) a.0 d (sym e))
plain_same (x ∷ xs) (y ∷ ys) r q a b c d e =
    let rest = plain_same xs ys r q a.1 b.1 c d (tails x y (xs ++ r) (ys ++ q) e) in
    (conses x y xs ys (heads x y (xs ++ r) (ys ++ q) e) rest.0, rest.1)

-- ---- numbers

abbrev IsDigit : ℕ → Type 0
IsDigit b = (48 ≤ b) × (b ≤ 57)

abbrev StartsDigit : List ℕ → Type 0
StartsDigit [] = ⊥
StartsDigit (b ∷ bs) = IsDigit b

digit_plain : (b : ℕ) → IsDigit b → is_end b ≡ false
digit_plain b d =
    let low = d.0 in
    let high = d.1 in
    grind (arith, nat_tests)

plain_push : (ds : List ℕ) (b : ℕ) → is_end b ≡ false → IsPlain ds → IsPlain (ds ++ b ∷ [])
plain_push [] b e a = (e, tt)
plain_push (d ∷ ds) b e a = (a.0, plain_push ds b e a.1)

starts_push : (ds es : List ℕ) → StartsDigit ds → StartsDigit (ds ++ es)
starts_push [] es a = absurd a
starts_push (d ∷ ds) es a = a

decimal_plain : (n : ℕ) → n < 2 ^ 64 → IsPlain (decimal n) × StartsDigit (decimal n)
decimal_plain n h =
    decimal_by_steps (λ m ds. IsPlain ds × StartsDigit ds)
    (λ m l. ((digit_plain (48 + m) (omega arith, omega arith), tt), (omega arith, omega arith)))
    (λ m ds l r. (plain_push ds (48 + m % 10) (digit_plain (48 + m % 10) (omega arith, omega arith)) r.0, starts_push ds ((48 + m % 10) ∷ []) r.1))
    n h

small : (n : ℕ) → nat_lt n (2 ^ 64) ≡ true → n < 2 ^ 64
small n e = ltb-true n (2 ^ 64) e

-- ---- what a text is, by its first byte

abbrev first_byte : List ℕ → ℕ
first_byte [] = 0
first_byte (b ∷ bs) = b

-- a string, a list or an object, or else an atom
abbrev sort_of_byte : ℕ → ℕ
sort_of_byte b = if b == 34 then 1 else (if b == 91 then 2 else (if b == 123 then 3 else 0))

abbrev sort_of : {X : Type 0} → Value-F X → ℕ
sort_of (Value-F.Text s) = 1
sort_of (Value-F.List items) = 2
sort_of (Value-F.Obj members) = 3
sort_of level = 0

digit_sort : (ds r : List ℕ) → StartsDigit ds → sort_of_byte (first_byte (ds ++ r)) ≡ 0
digit_sort [] r a = absurd a
digit_sort (b ∷ ds) r a =
    let low = a.0 in
    let high = a.1 in
    grind (arith, nat_tests)

digit_start : (ds r : List ℕ) → StartsDigit ds → is_end (first_byte (ds ++ r)) ≡ false
digit_start [] r a = absurd a
digit_start (b ∷ ds) r a = digit_plain b a

-- the texts inside stand for a level's values
abbrev Texts : Type 0
Texts = Value-F (List ℕ)

abbrev has_small : Texts → Bool
has_small (Value-F.Int n) = nat_lt (unsigned_abs n) (2 ^ 64)
has_small level = true

-- the first byte of a level's text is of its sort, and ends nothing
starts : (level : Texts) (r : List ℕ) → has_small level ≡ true → (sort_of_byte (first_byte (text_step level ++ r)) ≡ sort_of level) × (is_end (first_byte (text_step level ++ r)) ≡ false)
starts Value-F.Null r h = (refl, refl)
starts (Value-F.Bool true) r h = (refl, refl)
starts (Value-F.Bool false) r h = (refl, refl)
starts (Value-F.Int (pos n)) r h =
    let digits = (decimal_plain n (small n h)).1 in
    (digit_sort (decimal n) r digits, digit_start (decimal n) r digits)
starts (Value-F.Int (negsuc n)) r h = (refl, refl)
starts (Value-F.Text s) r h = (refl, refl)
starts (Value-F.List items) r h = (refl, refl)
starts (Value-F.Obj members) r h = (refl, refl)

-- ---- atoms

-- the atom of a text
abbrev atom_of : List ℕ → Value-F Value
atom_of [] = Value-F.Null
atom_of (b ∷ bs) =
    if b == 110 then Value-F.Null else (
    if b == 116 then Value-F.Bool true else (
    if b == 102 then Value-F.Bool false else (
    if b == 45 then Value-F.Int (negsuc (digits_value 10 bs - 1)) else Value-F.Int (pos (digits_value 10 (b ∷ bs))))))

atom_of_digits : (ds : List ℕ) → StartsDigit ds → atom_of ds ≡ Value-F.Int (pos (digits_value 10 ds))
atom_of_digits [] a = absurd a
atom_of_digits (b ∷ bs) a =
    let low = a.0 in
    let high = a.1 in
    grind (arith, nat_tests)

abbrev level_text : Value-F Value → List ℕ
level_text level = text_step (map-Value Value (List ℕ) text_of level)

abbrev level_numbers : Value-F Value → Bool
level_numbers level = numbers_at (map-Value Value Bool has_numbers level)

atom_back : (level : Value-F Value) → sort_of level ≡ 0 → level_numbers level ≡ true → (atom_of (level_text level) ≡ level) × IsPlain (level_text level)
atom_back Value-F.Null s h = (refl, (refl, (refl, (refl, (refl, tt)))))
atom_back (Value-F.Bool true) s h = (refl, (refl, (refl, (refl, (refl, tt)))))
atom_back (Value-F.Bool false) s h = (refl, (refl, (refl, (refl, (refl, (refl, tt))))))
atom_back (Value-F.Int (pos n)) s h =
    let plain = decimal_plain n (small n h) in
    (atom_of_digits (decimal n) plain.1 ∙ ap (λ m. Value-F.Int (pos m)) (decimal_is_IsNumeral n (small n h)).1, plain.0)
atom_back (Value-F.Int (negsuc n)) s h =
    let same : digits_value 10 (decimal (suc n)) - 1 ≡ n = omega (arith, (decimal_is_IsNumeral (suc n) (small (suc n) h)).1) in
    (ap (λ m. Value-F.Int (negsuc m)) same, (refl, (decimal_plain (suc n) (small (suc n) h)).0))
atom_back (Value-F.Text t) s h = absurd cc
atom_back (Value-F.List items) s h = absurd cc
atom_back (Value-F.Obj members) s h = absurd cc

-- ---- pieces with commas between

-- what follows the first of some pieces: the closing byte, or a comma and the others
abbrev behind : ℕ → List (List ℕ) → List ℕ → List ℕ
behind close [] r = close ∷ r
behind close (x ∷ xs) r = 44 ∷ (joined (x ∷ xs) ++ (close ∷ r))

joined_front : (close : ℕ) (x : List ℕ) (xs : List (List ℕ)) (r : List ℕ) → joined (x ∷ xs) ++ (close ∷ r) ≡ x ++ behind close xs r
joined_front close x [] r = refl
joined_front close x (y ∷ xs) r = append_assoc x (44 ∷ joined (y ∷ xs)) (close ∷ r)

behind_ends : (close : ℕ) (xs : List (List ℕ)) (r : List ℕ) → is_end close ≡ true → Ends (behind close xs r)
behind_ends close [] r e = e
behind_ends close (x ∷ xs) r e = refl

-- none of the bytes that may follow makes the text begin with an end
abbrev Opens : List ℕ → Type 0
Opens x = (r : List ℕ) → is_end (first_byte (x ++ r)) ≡ false

-- a piece is told from any other one, whatever follows, and begins with no end
record IsTold {A B : Type 0} (piece : A → List ℕ) (value : A → B) (other : B → List ℕ) (Fine : B → Type 0) (a : A) : Type 0 where
  opens : Opens (piece a)
  told : (b : B) (r q : List ℕ) → Fine b → Ends r → Ends q → piece a ++ r ≡ other b ++ q → (value a ≡ b) × (r ≡ q)

record IsFine {B : Type 0} (other : B → List ℕ) (Fine : B → Type 0) (b : B) : Type 0 where
  opens : Opens (other b)
  fine : Fine b

-- the pieces of one list are told from those of another, each from all that it may be followed by
module _ {A B : Type 0} (piece : A → List ℕ) (value : A → B) (other : B → List ℕ) (Fine : B → Type 0) (close : ℕ) (closes : is_end close ≡ true) (apart : 44 ≢ close) where
  not_closed : (x : List ℕ) (xs : List (List ℕ)) (r q : List ℕ) → Opens x → close ∷ q ≡ joined (x ∷ xs) ++ (close ∷ r) → ⊥
  not_closed x xs r q opens e =
      let first : close ≡ first_byte (x ++ behind close xs r) = ap first_byte (e ∙ joined_front close x xs r) in
      true≢false (sym closes ∙ ap is_end first ∙ opens (behind close xs r))

  pieces_same : (es : List A) (ys : List B) (r q : List ℕ) → AllByRecursion (IsTold piece value other Fine) es → AllByRecursion (IsFine other Fine) ys
      → joined (map piece es) ++ (close ∷ r) ≡ joined (map other ys) ++ (close ∷ q) → (map value es ≡ ys) × (r ≡ q)
  pieces_same [] [] r q told fine e = (refl, tails close close r q e)
  pieces_same [] (y ∷ ys) r q told fine e = absurd (not_closed (other y) (map other ys) q r fine.0.opens e)
  pieces_same (x ∷ es) [] r q told fine e = absurd (not_closed (piece x) (map piece es) r q told.0.opens (sym e))
  pieces_same (x ∷ []) (y ∷ []) r q told fine e =
      let both = told.0.told y (close ∷ r) (close ∷ q) fine.0.fine closes closes e in
      (ap (λ b. b ∷ []) both.0, tails close close r q both.1)
  pieces_same (x ∷ []) (y ∷ z ∷ ys) r q told fine e =
      let both = told.0.told y (close ∷ r) (behind close (map other (z ∷ ys)) q) fine.0.fine closes refl (e ∙ joined_front close (other y) (map other (z ∷ ys)) q) in
      absurd (apart (sym (heads close 44 r (joined (map other (z ∷ ys)) ++ (close ∷ q)) both.1)))
  pieces_same (x ∷ w ∷ es) (y ∷ []) r q told fine e =
      let both = told.0.told y (behind close (map piece (w ∷ es)) r) (close ∷ q) fine.0.fine refl closes (sym (joined_front close (piece x) (map piece (w ∷ es)) r) ∙ e) in
      absurd (apart (heads 44 close (joined (map piece (w ∷ es)) ++ (close ∷ r)) q both.1))
  pieces_same (x ∷ w ∷ es) (y ∷ z ∷ ys) r q told fine e =
      let both = told.0.told y (behind close (map piece (w ∷ es)) r) (behind close (map other (z ∷ ys)) q) fine.0.fine refl refl (sym (joined_front close (piece x) (map piece (w ∷ es)) r) ∙ e ∙ joined_front close (other y) (map other (z ∷ ys)) q) in
      let more = pieces_same (w ∷ es) (z ∷ ys) r q told.1 fine.1 (tails 44 44 (joined (map piece (w ∷ es)) ++ (close ∷ r)) (joined (map other (z ∷ ys)) ++ (close ∷ q)) both.1) in
      (ap₂ (λ (b : B) (bs : List B). b ∷ bs) both.0 more.0, more.1)

-- ---- values

-- a value is told from its text, whatever follows
abbrev IsTextTold : Value → Type 0
IsTextTold v = (w : Value) (r q : List ℕ) → has_numbers v ≡ true → has_numbers w ≡ true → Ends r → Ends q → text_of v ++ r ≡ text_of w ++ q → (v ≡ w) × (r ≡ q)

-- a value inside, with that
abbrev Inner : Type 0
Inner = (v : Value) × IsTextTold v

abbrev inside : Inner → Value
inside e = e.0

abbrev named_inside : List ℕ × Inner → List ℕ × Value
named_inside m = (m.0, m.1.0)

abbrev named_text : List ℕ × Value → List ℕ
named_text m = member_text (m.0, text_of m.1)

numbers_small : (level : Value-F Value) → level_numbers level ≡ true → has_small (map-Value Value (List ℕ) text_of level) ≡ true
numbers_small Value-F.Null h = refl
numbers_small (Value-F.Bool b) h = refl
numbers_small (Value-F.Int n) h = h
numbers_small (Value-F.Text s) h = refl
numbers_small (Value-F.List items) h = refl
numbers_small (Value-F.Obj members) h = refl

-- what holds of every level holds of every value
pub by_level : (P : Value → Type 0) → ((level : Value-F Value) → P (roll-Value level)) → (v : Value) → P v
by_level P k = ind-Value P (λ level y is. k level)

-- no value's text begins with an end
text_opens : (v : Value) (r : List ℕ) → has_numbers v ≡ true → is_end (first_byte (text_of v ++ r)) ≡ false
text_opens = by_level (λ v. (r : List ℕ) → has_numbers v ≡ true → is_end (first_byte (text_of v ++ r)) ≡ false) (λ level r h.
    let numbers : level_numbers level ≡ true = sym (fold-roll-Value Bool numbers_at level) ∙ h in
    ap (λ t. is_end (first_byte (t ++ r))) (fold-roll-Value (List ℕ) text_step level)
    ∙ (starts (map-Value Value (List ℕ) text_of level) r (numbers_small level numbers)).1)

same_sort : (one other : Value-F Value) (r q : List ℕ) → level_numbers one ≡ true → level_numbers other ≡ true → level_text one ++ r ≡ level_text other ++ q → sort_of one ≡ sort_of other
same_sort one other r q h k e =
    sym (sort_kept one) ∙ sym (starts (map-Value Value (List ℕ) text_of one) r (numbers_small one h)).0
    ∙ ap (λ t. sort_of_byte (first_byte t)) e
    ∙ (starts (map-Value Value (List ℕ) text_of other) q (numbers_small other k)).0 ∙ sort_kept other
  where
    sort_kept : (level : Value-F Value) → sort_of (map-Value Value (List ℕ) text_of level) ≡ sort_of level
    sort_kept Value-F.Null = refl
    sort_kept (Value-F.Bool b) = refl
    sort_kept (Value-F.Int n) = refl
    sort_kept (Value-F.Text s) = refl
    sort_kept (Value-F.List items) = refl
    sort_kept (Value-F.Obj members) = refl

-- a level of a sort is of that form
text_form : (level : Value-F Value) → sort_of level ≡ 1 → (s : List ℕ) × (level ≡ Value-F.Text s)
text_form Value-F.Null e = absurd cc
text_form (Value-F.Bool b) e = absurd cc
text_form (Value-F.Int n) e = absurd cc
text_form (Value-F.Text s) e = (s, refl)
text_form (Value-F.List items) e = absurd cc
text_form (Value-F.Obj members) e = absurd cc

list_form : (level : Value-F Value) → sort_of level ≡ 2 → (items : List Value) × (level ≡ Value-F.List items)
list_form Value-F.Null e = absurd cc
list_form (Value-F.Bool b) e = absurd cc
list_form (Value-F.Int n) e = absurd cc
list_form (Value-F.Text s) e = absurd cc
list_form (Value-F.List items) e = (items, refl)
list_form (Value-F.Obj members) e = absurd cc

object_form : (level : Value-F Value) → sort_of level ≡ 3 → (members : List (List ℕ × Value)) × (level ≡ Value-F.Obj members)
object_form Value-F.Null e = absurd cc
object_form (Value-F.Bool b) e = absurd cc
object_form (Value-F.Int n) e = absurd cc
object_form (Value-F.Text s) e = absurd cc
object_form (Value-F.List items) e = absurd cc
object_form (Value-F.Obj members) e = (members, refl)

-- atoms are told by their bytes before the end
atoms_same : (one other : Value-F Value) (r q : List ℕ) → sort_of one ≡ 0 → sort_of other ≡ 0 → level_numbers one ≡ true → level_numbers other ≡ true → Ends r → Ends q → level_text one ++ r ≡ level_text other ++ q → (one ≡ other) × (r ≡ q)
atoms_same one other r q s t h k a b e =
    let first = atom_back one s h in
    let second = atom_back other t k in
    let both = plain_same (level_text one) (level_text other) r q first.1 second.1 a b e in
    (sym first.0 ∙ ap atom_of both.0 ∙ second.0, both.1)

all_numbers : (vs : List Value) → list_all (λ item. item) (map has_numbers vs) ≡ true → AllByRecursion (λ v. has_numbers v ≡ true) vs
all_numbers [] h = tt
all_numbers (v ∷ vs) h =
    let parts = and_parts (has_numbers v) (list_all (λ item. item) (map has_numbers vs)) h in
    (parts.0, all_numbers vs parts.1)

abbrev named_numbers : List ℕ × Value → List ℕ × Bool
named_numbers m = (m.0, has_numbers m.1)

all_named : (ms : List (List ℕ × Value)) → list_all (λ member. member.1) (map named_numbers ms) ≡ true → AllByRecursion (λ m. has_numbers m.1 ≡ true) ms
all_named [] h = tt
all_named (m ∷ ms) h =
    let parts = and_parts (has_numbers m.1) (list_all (λ member. member.1) (map named_numbers ms)) h in
    (parts.0, all_named ms parts.1)

abbrev Step : Value-F Inner → Type 0
Step y = (other : Value-F Value) (r q : List ℕ) → level_numbers (map-Value Inner Value inside y) ≡ true → level_numbers other ≡ true → Ends r → Ends q
    → level_text (map-Value Inner Value inside y) ++ r ≡ level_text other ++ q → (map-Value Inner Value inside y ≡ other) × (r ≡ q)

list_front : (texts : List (List ℕ)) (r : List ℕ) → list_text texts ++ r ≡ 91 ∷ (joined texts ++ (93 ∷ r))
list_front texts r = ap (λ t. 91 ∷ t) (append_assoc (joined texts) (93 ∷ []) r)

object_front : (members : List (List ℕ × List ℕ)) (r : List ℕ) → object_text members ++ r ≡ 123 ∷ (joined (map member_text members) ++ (125 ∷ r))
object_front members r = ap (λ t. 123 ∷ t) (append_assoc (joined (map member_text members)) (125 ∷ []) r)

member_front : (name text r : List ℕ) → member_text (name, text) ++ r ≡ quoted name ++ (58 ∷ (text ++ r))
member_front name text r = append_assoc (quoted name ++ (58 ∷ [])) text r ∙ append_assoc (quoted name) (58 ∷ []) (text ++ r)

-- what a list's items and an object's members are told by

abbrev item_text : Inner → List ℕ
item_text e = text_of e.0

abbrev inner_member_text : List ℕ × Inner → List ℕ
inner_member_text m = member_text (m.0, text_of m.1.0)

items_told : (es : List Inner) → AllByRecursion (λ v. has_numbers v ≡ true) (map inside es) → AllByRecursion (IsTold item_text inside text_of (λ w. has_numbers w ≡ true)) es
items_told [] a = tt
items_told (e ∷ es) a = (record { opens = λ r. text_opens e.0 r a.0; told = λ w r q k c d is. e.1 w r q a.0 k c d is }, items_told es a.1)

items_fine : (vs : List Value) → AllByRecursion (λ v. has_numbers v ≡ true) vs → AllByRecursion (IsFine text_of (λ w. has_numbers w ≡ true)) vs
items_fine [] a = tt
items_fine (v ∷ vs) a = (record { opens = λ r. text_opens v r a.0; fine = a.0 }, items_fine vs a.1)

-- a member's text begins with a quotation mark
member_opens : (name text r : List ℕ) → is_end (first_byte (member_text (name, text) ++ r)) ≡ false
member_opens name text r = refl

member_told : (m : List ℕ × Inner) → has_numbers m.1.0 ≡ true → (w : List ℕ × Value) (r q : List ℕ) → has_numbers w.1 ≡ true → Ends r → Ends q → inner_member_text m ++ r ≡ named_text w ++ q → (named_inside m ≡ w) × (r ≡ q)
member_told m h w r q k a b is =
    let names = quoted_same m.0 w.0 (58 ∷ (text_of m.1.0 ++ r)) (58 ∷ (text_of w.1 ++ q)) (sym (member_front m.0 (text_of m.1.0) r) ∙ is ∙ member_front w.0 (text_of w.1) q) in
    let values = m.1.1 w.1 r q h k a b (tails 58 58 (text_of m.1.0 ++ r) (text_of w.1 ++ q) names.1) in
    (ap₂ (λ (n : List ℕ) (v : Value). (n, v)) names.0 values.0, values.1)

members_told : (ms : List (List ℕ × Inner)) → AllByRecursion (λ m. has_numbers m.1 ≡ true) (map named_inside ms) → AllByRecursion (IsTold inner_member_text named_inside named_text (λ w. has_numbers w.1 ≡ true)) ms
members_told [] a = tt
members_told (m ∷ ms) a = (record { opens = λ r. member_opens m.0 (text_of m.1.0) r; told = λ w r q k c d is. member_told m a.0 w r q k c d is }, members_told ms a.1)

members_fine : (ms : List (List ℕ × Value)) → AllByRecursion (λ m. has_numbers m.1 ≡ true) ms → AllByRecursion (IsFine named_text (λ w. has_numbers w.1 ≡ true)) ms
members_fine [] a = tt
members_fine (m ∷ ms) a = (record { opens = λ r. member_opens m.0 (text_of m.1) r; fine = a.0 }, members_fine ms a.1)

-- ---- levels

map_map : {X Y Z : Type 0} (g : Y → Z) (f : X → Y) (xs : List X) → map g (map f xs) ≡ map (λ x. g (f x)) xs
map_map g f [] = refl
map_map g f (x ∷ xs) = ap (λ ys. g (f x) ∷ ys) (map_map g f xs)

abbrev dated : List ℕ × Value → List ℕ × List ℕ
dated m = (m.0, text_of m.1)

-- a level is told from its text, whatever follows
abbrev IsLevelTold : Value-F Value → Type 0
IsLevelTold level = (other : Value-F Value) (r q : List ℕ) → level_numbers level ≡ true → level_numbers other ≡ true → Ends r → Ends q → level_text level ++ r ≡ level_text other ++ q → (level ≡ other) × (r ≡ q)

atom_told : (level : Value-F Value) → sort_of level ≡ 0 → IsLevelTold level
atom_told level s other r q h k a b e = atoms_same level other r q s (sym (same_sort level other r q h k e) ∙ s) h k a b e

text_told : (s : List ℕ) → IsLevelTold (Value-F.Text s)
text_told s other r q h k a b e =
    let form = text_form other (sym (same_sort (Value-F.Text s) other r q h k e)) in
    let both = quoted_same s form.0 r q (subst (λ o. quoted s ++ r ≡ level_text o ++ q) form.1 e) in
    (ap Value-F.Text both.0 ∙ sym form.1, both.1)

bracket_apart : ◌≢◌ {A = ℕ} 44 93
bracket_apart e = absurd cc

brace_apart : ◌≢◌ {A = ℕ} 44 125
brace_apart e = absurd cc

lists_same : (es : List Inner) (ys : List Value) (r q : List ℕ) → level_numbers (Value-F.List (map inside es)) ≡ true → level_numbers (Value-F.List ys) ≡ true
    → level_text (Value-F.List (map inside es)) ++ r ≡ level_text (Value-F.List ys) ++ q → (map inside es ≡ ys) × (r ≡ q)
lists_same es ys r q h k e =
    let texts = map_map text_of inside es in
    pieces_same item_text inside text_of (λ w. has_numbers w ≡ true) 93 refl bracket_apart es ys r q (items_told es (all_numbers (map inside es) h)) (items_fine ys (all_numbers ys k))
    (ap (λ ts. joined ts ++ (93 ∷ r)) (sym texts)
    ∙ tails 91 91 (joined (map text_of (map inside es)) ++ (93 ∷ r)) (joined (map text_of ys) ++ (93 ∷ q)) (sym (list_front (map text_of (map inside es)) r) ∙ e ∙ list_front (map text_of ys) q))

list_told : (es : List Inner) → IsLevelTold (Value-F.List (map inside es))
list_told es other r q h k a b e =
    let form = list_form other (sym (same_sort (Value-F.List (map inside es)) other r q h k e)) in
    let both = lists_same es form.0 r q h (subst (λ o. level_numbers o ≡ true) form.1 k) (subst (λ o. level_text (Value-F.List (map inside es)) ++ r ≡ level_text o ++ q) form.1 e) in
    (ap Value-F.List both.0 ∙ sym form.1, both.1)

objects_same : (ms : List (List ℕ × Inner)) (ws : List (List ℕ × Value)) (r q : List ℕ) → level_numbers (Value-F.Obj (map named_inside ms)) ≡ true → level_numbers (Value-F.Obj ws) ≡ true
    → level_text (Value-F.Obj (map named_inside ms)) ++ r ≡ level_text (Value-F.Obj ws) ++ q → (map named_inside ms ≡ ws) × (r ≡ q)
objects_same ms ws r q h k e =
    let texts : map member_text (map dated (map named_inside ms)) ≡ map inner_member_text ms = ap (map member_text) (map_map dated named_inside ms) ∙ map_map member_text (λ m. dated (named_inside m)) ms in
    let others : map member_text (map dated ws) ≡ map named_text ws = map_map member_text dated ws in
    pieces_same inner_member_text named_inside named_text (λ w. has_numbers w.1 ≡ true) 125 refl brace_apart ms ws r q (members_told ms (all_named (map named_inside ms) h)) (members_fine ws (all_named ws k))
    (ap (λ ts. joined ts ++ (125 ∷ r)) (sym texts)
    ∙ tails 123 123 (joined (map member_text (map dated (map named_inside ms))) ++ (125 ∷ r)) (joined (map member_text (map dated ws)) ++ (125 ∷ q))
    (sym (object_front (map dated (map named_inside ms)) r) ∙ e ∙ object_front (map dated ws) q)
    ∙ ap (λ ts. joined ts ++ (125 ∷ q)) others)

object_told : (ms : List (List ℕ × Inner)) → IsLevelTold (Value-F.Obj (map named_inside ms))
object_told ms other r q h k a b e =
    let form = object_form other (sym (same_sort (Value-F.Obj (map named_inside ms)) other r q h k e)) in
    let both = objects_same ms form.0 r q h (subst (λ o. level_numbers o ≡ true) form.1 k) (subst (λ o. level_text (Value-F.Obj (map named_inside ms)) ++ r ≡ level_text o ++ q) form.1 e) in
    (ap Value-F.Obj both.0 ∙ sym form.1, both.1)

level_told : (y : Value-F Inner) → IsLevelTold (map-Value Inner Value inside y)
level_told Value-F.Null = atom_told Value-F.Null refl
level_told (Value-F.Bool b) = atom_told (Value-F.Bool b) refl
level_told (Value-F.Int n) = atom_told (Value-F.Int n) refl
level_told (Value-F.Text s) = text_told s
level_told (Value-F.List es) = list_told es
level_told (Value-F.Obj ms) = object_told ms

value_told : (v : Value) → IsTextTold v
value_told = ind-Value IsTextTold (λ x y is w. by_level
    (λ w. (r q : List ℕ) → has_numbers (roll-Value x) ≡ true → has_numbers w ≡ true → Ends r → Ends q → text_of (roll-Value x) ++ r ≡ text_of w ++ q → (roll-Value x ≡ w) × (r ≡ q))
    (λ z r q h k a b e.
    let both = subst IsLevelTold is (level_told y) z r q (sym (fold-roll-Value Bool numbers_at x) ∙ h) (sym (fold-roll-Value Bool numbers_at z) ∙ k) a b
    (ap (λ t. t ++ r) (sym (fold-roll-Value (List ℕ) text_step x)) ∙ e ∙ ap (λ t. t ++ q) (fold-roll-Value (List ℕ) text_step z)) in
    (ap roll-Value both.0, both.1))
    w)

pub texts_by_values : (v w : Value) → has_numbers v ≡ true → has_numbers w ≡ true → text_of v ≡ text_of w → v ≡ w
texts_by_values v w h k e = (value_told v w [] [] h k tt tt (append-nil (text_of v) ∙ e ∙ sym (append-nil (text_of w)))).0
