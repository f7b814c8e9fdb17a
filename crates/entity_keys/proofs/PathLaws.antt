-- Equal keys of embedded objects come from equal parts: behind the last dots stand indexes, and before them a field.
use Rattle.std.proofs.Common.{◌≡◌, ℕ, zero, suc, ◌+◌, ◌%◌, ◌^◌, ◌<◌, ◌≤◌, ◌==◌, ◌||◌, true, List, [], ◌∷◌, ◌++◌, take, length, refl, ap, sym, subst, ◌∙◌, arith, append_assoc, decimal, inl, inr}
use Rattle.std.specs.List.{list_all}
use Rattle.std.specs.Prelude.{position, unwrap_or}
use Rattle.std.proofs.lemmas.Bool.Decides.{nat_tests}
use Rattle.std.proofs.lemmas.Fmt.{decimal_is_IsNumeral, decimal_by_steps}
use Rattle.std.specs.Str.Parse.{digits_value}
use Rattle.cache_model.specs.Keys.{is_name, is_name_start, is_digit, IsName, escaped_byte, escaped, places_text, embedded_text, field_name_of}
use Rattle.entity_keys.specs.Laws.{ArePlaces}
use Rattle.entity_keys.proofs.Splits.{Lacks, heads, tails, conses, split_last}
use Rattle.entity_keys.proofs.EscapeLaws.{Written, written, after, escaped_lacks_dot, escaped_same}
use Rattle.entity_keys.proofs.KeyLaws.{left_of, name_lacks}

abbrev AreDigits : List ℕ → Type 0
AreDigits [] = Unit {0}
AreDigits (x ∷ xs) = ((48 ≤ x) × (x ≤ 57)) × AreDigits xs

abbrev StartsDigit : List ℕ → Type 0
StartsDigit [] = ⊥
StartsDigit (x ∷ xs) = (48 ≤ x) × (x ≤ 57)

abbrev StartsOtherwise : List ℕ → Type 0
StartsOtherwise [] = ⊥
StartsOtherwise (x ∷ xs) = 48 ≤ x → x ≤ 57 → ⊥

starts_append : (ds es : List ℕ) → StartsDigit ds → StartsDigit (ds ++ es)
starts_append [] es s = absurd s
starts_append (d ∷ ds) es s = s

digits_push : (ds : List ℕ) (x : ℕ) → 48 ≤ x → x ≤ 57 → AreDigits ds → AreDigits (ds ++ (x ∷ []))
digits_push [] x l m a = ((l, m), tt)
digits_push (d ∷ ds) x l m a = (a.0, digits_push ds x l m a.1)

decimal_digits : (n : ℕ) → n < 2 ^ 64 → AreDigits (decimal n) × StartsDigit (decimal n)
decimal_digits n h =
    decimal_by_steps (λ m ds. AreDigits ds × StartsDigit ds)
    (λ m l. (((omega arith, omega arith), tt), (omega arith, omega arith)))
    (λ m ds l r. (digits_push ds (48 + m % 10) (omega arith) (omega arith) r.0, starts_append ds ((48 + m % 10) ∷ []) r.1))
    n h

digits_lack_dot : (ds : List ℕ) → AreDigits ds → Lacks 46 ds
digits_lack_dot [] a = tt
digits_lack_dot (d ∷ ds) a = (after d 46 (omega (arith, a.0.0)), digits_lack_dot ds a.1)

decimal_lacks_dot : (n : ℕ) → n < 2 ^ 64 → Lacks 46 (decimal n)
decimal_lacks_dot n h = digits_lack_dot (decimal n) (decimal_digits n h).0

decimal_same : (n m : ℕ) → n < 2 ^ 64 → m < 2 ^ 64 → decimal n ≡ decimal m → n ≡ m
decimal_same n m h k e = sym (decimal_is_IsNumeral n h).1 ∙ ap (digits_value 10) e ∙ (decimal_is_IsNumeral m k).1

-- behind each dot stands a digit
abbrev Indexed : List ℕ → Type 0
Indexed [] = Unit {0}
Indexed (x ∷ xs) = (x ≡ 46 → StartsDigit xs) × Indexed xs

indexed_append : (xs ys : List ℕ) → Lacks 46 xs → Indexed ys → Indexed (xs ++ ys)
indexed_append [] ys l i = i
indexed_append (x ∷ xs) ys l i = ((λ e. absurd (l.0 e)), indexed_append xs ys l.1 i)

indexed_places : (ps : List ℕ) → ArePlaces ps → Indexed (places_text ps)
indexed_places [] a = tt
indexed_places (p ∷ ps) a = (
  (λ e. starts_append (decimal p) (places_text ps) (decimal_digits p a.0).1),
  indexed_append (decimal p) (places_text ps) (decimal_lacks_dot p a.0) (indexed_places ps a.1),
)

otherwise_no_digit : (fs rest : List ℕ) → StartsOtherwise fs → StartsDigit (fs ++ rest) → ⊥
otherwise_no_digit [] rest o s = absurd o
otherwise_no_digit (f ∷ fs) rest o s = o s.0 s.1

not_indexed : (ys fs rest : List ℕ) → StartsOtherwise fs → Indexed (ys ++ (46 ∷ (fs ++ rest))) → ⊥
not_indexed [] fs rest o i = otherwise_no_digit fs rest o (i.0 refl)
not_indexed (y ∷ ys) fs rest o i = not_indexed ys fs rest o i.1

no_place_start : (ps ys : List ℕ) (y : ℕ) → (y ≡ 46 → ⊥) → places_text ps ≡ y ∷ ys → ⊥
no_place_start [] ys y n e = absurd cc
no_place_start (p ∷ ps) ys y n e = n (sym (heads 46 y (decimal p ++ places_text ps) ys e))

-- a piece without dots, and the indexes behind it
piece_same : (xs ys ps qs : List ℕ) → Lacks 46 xs → Lacks 46 ys → xs ++ places_text ps ≡ ys ++ places_text qs → (xs ≡ ys) × (places_text ps ≡ places_text qs)
piece_same [] [] ps qs l m e = (refl, e)
piece_same [] (y ∷ ys) ps qs l m e = absurd (no_place_start ps (ys ++ places_text qs) y m.0 e)
piece_same (x ∷ xs) [] ps qs l m e = absurd (no_place_start qs (xs ++ places_text ps) x l.0 (sym e))
piece_same (x ∷ xs) (y ∷ ys) ps qs l m e =
    let r = piece_same xs ys ps qs l.1 m.1 (tails x y (xs ++ places_text ps) (ys ++ places_text qs) e) in
    (conses x y xs ys (heads x y (xs ++ places_text ps) (ys ++ places_text qs) e) r.0, r.1)

places_same : (ps qs : List ℕ) → ArePlaces ps → ArePlaces qs → places_text ps ≡ places_text qs → ps ≡ qs
places_same [] [] a b e = refl
places_same [] (q ∷ qs) a b e = absurd cc
places_same (p ∷ ps) [] a b e = absurd cc
places_same (p ∷ ps) (q ∷ qs) a b e =
    let r = piece_same (decimal p) (decimal q) ps qs (decimal_lacks_dot p a.0) (decimal_lacks_dot q b.0) (tails 46 46 (decimal p ++ places_text ps) (decimal q ++ places_text qs) e) in
    conses p q ps qs (decimal_same p q a.0 b.0 r.0) (places_same ps qs a.1 b.1 r.1)

-- a parent, a field, and the indexes behind them
path_same : (p q e f ps qs : List ℕ) → Lacks 46 e → Lacks 46 f → StartsOtherwise e → StartsOtherwise f → ArePlaces ps → ArePlaces qs
    → p ++ (46 ∷ (e ++ places_text ps)) ≡ q ++ (46 ∷ (f ++ places_text qs))
    → (p ≡ q) × ((e ≡ f) × (places_text ps ≡ places_text qs))
path_same [] [] e f ps qs l m s o a b h = (refl, piece_same e f ps qs l m (tails 46 46 (e ++ places_text ps) (f ++ places_text qs) h))
path_same [] (y ∷ q) e f ps qs l m s o a b h =
    absurd (not_indexed q f (places_text qs) o
    (subst Indexed (tails 46 y (e ++ places_text ps) (q ++ (46 ∷ (f ++ places_text qs))) h) (indexed_append e (places_text ps) l (indexed_places ps a))))
path_same (x ∷ p) [] e f ps qs l m s o a b h =
    absurd (not_indexed p e (places_text ps) s
    (subst Indexed (sym (tails x 46 (p ++ (46 ∷ (e ++ places_text ps))) (f ++ places_text qs) h)) (indexed_append f (places_text qs) m (indexed_places qs b))))
path_same (x ∷ p) (y ∷ q) e f ps qs l m s o a b h =
    let r = path_same p q e f ps qs l m s o a b (tails x y (p ++ (46 ∷ (e ++ places_text ps))) (q ++ (46 ∷ (f ++ places_text qs))) h) in
    (conses x y p q (heads x y (p ++ (46 ∷ (e ++ places_text ps))) (q ++ (46 ∷ (f ++ places_text qs))) h) r.0, r.1)

start_is_no_digit : (b : ℕ) → is_name_start b ≡ true → 48 ≤ b → b ≤ 57 → ⊥
start_is_no_digit b e l m = grind (arith, nat_tests)

low : (x y : ℕ) → y < x → x ≤ y → ⊥
low x y l m = absurd (omega arith)

written_start : (b : ℕ) (bs r : List ℕ) → Written b bs → (48 ≤ b → b ≤ 57 → ⊥) → StartsOtherwise (bs ++ r)
written_start b bs r w n =
    elim w [
      | inl e ↦ subst (λ z. StartsOtherwise (z ++ r)) (sym e.1) (λ l m. low 48 37 (omega arith) l)
      | inr v ↦ elim v [
        | inl e ↦ subst (λ z. StartsOtherwise (z ++ r)) (sym e.1) (λ l m. low 48 37 (omega arith) l)
        | inr e ↦ subst (λ z. StartsOtherwise (z ++ r)) (sym e.1) n
      ]
    ]

name_start : (k : ℕ) (f : List ℕ) → is_name (take k f) ≡ true → StartsOtherwise (escaped f)
name_start zero [] e = absurd cc
name_start zero (b ∷ f) e = absurd cc
name_start (suc k) [] e = absurd cc
name_start (suc k) (b ∷ f) e = written_start b (escaped_byte b) (escaped f) (written b) (start_is_no_digit b (left_of (is_name_start b) (list_all (λ c. is_name_start c || is_digit c) (take k f)) e))

field_start : (f : List ℕ) → IsName (field_name_of f) → StartsOtherwise (escaped f)
field_start f e = name_start (unwrap_or (position (λ b. b == 40) f) (length f)) f e

path_first : (p e s n : List ℕ) → p ++ (46 ∷ (e ++ (s ++ (64 ∷ n)))) ≡ (p ++ (46 ∷ (e ++ s))) ++ (64 ∷ n)
path_first p e s n = ap (λ z. p ++ (46 ∷ z)) (sym (append_assoc e s (64 ∷ n))) ∙ sym (append_assoc p (46 ∷ (e ++ s)) (64 ∷ n))

pub embedded_same : (parent field places name other other_field other_places other_name : List ℕ)
    → IsName (field_name_of field) → IsName (field_name_of other_field)
    → ArePlaces places → ArePlaces other_places → IsName name → IsName other_name
    → embedded_text parent field places name ≡ embedded_text other other_field other_places other_name
    → (parent ≡ other) × ((field ≡ other_field) × ((places ≡ other_places) × (name ≡ other_name)))
embedded_same p f ps n q g qs m fn gn a b nn mn e =
    let split = split_last 64 (p ++ (46 ∷ (escaped f ++ places_text ps))) (q ++ (46 ∷ (escaped g ++ places_text qs))) n m
    (name_lacks 64 (inr (inr refl)) n nn) (name_lacks 64 (inr (inr refl)) m mn)
    (sym (path_first p (escaped f) (places_text ps) n) ∙ e ∙ path_first q (escaped g) (places_text qs) m) in
    let path = path_same p q (escaped f) (escaped g) ps qs (escaped_lacks_dot f) (escaped_lacks_dot g) (field_start f fn) (field_start g gn) a b split.0 in
    (path.0, (escaped_same f g path.1.0, (places_same ps qs a b path.1.1, split.1)))
