-- One name more in a list, and in the set of the names met so far.
use Rattle.std.proofs.Common.{◌≡◌, ℕ, List, [], ◌∷◌, ◌++◌, refl, ap, sym, ◌∙◌, Bool, true, false, cond, ◌||◌, bytes_eq}
use Rattle.std.specs.Prelude.{Option, None, Some}
use Rattle.std.specs.List.{list_any, fold}
use Rattle.std.specs.Ordering.{is_eq}
use Rattle.std.specs.Cmp.{IsEquivalence}
use Rattle.std.specs.Cmp.Lexicographic.{nat_list_eq_equiv}
use Rattle.std.proofs.lemmas.List.Sums.{fold_push}
use Rattle.std.proofs.lemmas.Map.Text.{is_eq-slice_cmp}
use Rattle.text_types.specs.Texts.{text_cmp}
use Rattle.schema_rules.specs.Lines.{earlier, least_by}
use Rattle.schema_rules.specs.Lines.{Mark}
use Rattle.schema_defaults.specs.Repetitions.{repeated, same_name, meets}
use Rattle.schema_defaults.proofs.EarlierLaws.{earlier_swap, line_or}

-- the line of a name that was met before
abbrev pub again : Mark → List Mark → Option ℕ
again m ms = cond (meets m.0 ms) (Some m.1) None

pub repeated_push : (ms : List Mark) (m : Mark) → repeated (ms ++ m ∷ []) ≡ earlier (repeated ms) (again m ms)
repeated_push [] m = refl
repeated_push (k ∷ ms) m =
    ap (λ o. earlier o (repeated (ms ++ m ∷ []))) (fold_push (λ least x. earlier least (same_name k x)) None ms m)
    ∙ ap (earlier (earlier (least_by (same_name k) ms) (same_name k m))) (repeated_push ms m)
    ∙ earlier_swap (least_by (same_name k) ms) (same_name k m) (repeated ms) (again m ms)
    ∙ sym (ap (earlier (earlier (least_by (same_name k) ms) (repeated ms))) (line_or (bytes_eq m.0 k.0) (meets m.0 ms) m.1))

or_false : (b : Bool) → (b || false) ≡ b
or_false true = refl
or_false false = refl

or_assoc : (a b c : Bool) → ((a || b) || c) ≡ (a || (b || c))
or_assoc true b c = refl
or_assoc false b c = refl

pub meets_push : (q : List ℕ) (ms : List Mark) (m : Mark) → meets q (ms ++ m ∷ []) ≡ (meets q ms || bytes_eq q m.0)
meets_push q [] m = or_false (bytes_eq q m.0)
meets_push q (k ∷ ms) m = ap (λ b. bytes_eq q k.0 || b) (meets_push q ms m) ∙ sym (or_assoc (bytes_eq q k.0) (meets q ms) (bytes_eq q m.0))

meets_congr : (p q : List ℕ) (ms : List Mark) → bytes_eq p q ≡ true → meets p ms ≡ meets q ms
meets_congr p q [] same = refl
meets_congr p q (k ∷ ms) same =
    ap (λ b. b || meets p ms) (nat_list_eq_equiv.congr p q k.0 same)
    ∙ ap (λ b. bytes_eq q k.0 || b) (meets_congr p q ms same)

known_case : (b c : Bool) → (b ≡ true → c ≡ true) → (c || b) ≡ c
known_case true true h = refl
known_case true false h = sym (h refl)
known_case false c h = or_false c

-- a name that was met before adds nothing
pub meets_known : (q : List ℕ) (ms : List Mark) (m : Mark) → meets m.0 ms ≡ true → meets q ms ≡ meets q (ms ++ m ∷ [])
meets_known q ms m known =
    sym (meets_push q ms m ∙ known_case (bytes_eq q m.0) (meets q ms) (λ same. meets_congr q m.0 ms same ∙ known))

new_case : (b c : Bool) → cond b true c ≡ (c || b)
new_case true true = refl
new_case true false = refl
new_case false c = sym (or_false c)

-- a name that is put into the set
pub meets_new : (q : List ℕ) (ms : List Mark) (m : Mark) → cond (is_eq (text_cmp m.0 q)) true (meets q ms) ≡ meets q (ms ++ m ∷ [])
meets_new q ms m =
    ap (λ b. cond b true (meets q ms)) (is_eq-slice_cmp m.0 q ∙ nat_list_eq_equiv.symm m.0 q)
    ∙ new_case (bytes_eq q m.0) (meets q ms)
    ∙ sym (meets_push q ms m)
