-- Places and values of names in lists of pairs.
use Rattle.std.proofs.Common.{◌≡◌, ℕ, zero, suc, ◌+◌, ◌-◌, ◌≤◌, List, [], ◌∷◌, ◌++◌, length, refl, sym, ap, ◌∙◌, subst, arith, Bool, true, false, cond, bytes_eq}
use Rattle.std.specs.Prelude.{slice_get, Option, None, Some}
use Rattle.std.specs.Option.{option_map, option_or}
use Rattle.std.proofs.lemmas.Option.{same_Some}
use Rattle.std.specs.List.{position_from, AllByRecursion}
use Rattle.std.specs.Map.{lookup}
use Rattle.std.specs.Ordering.{is_eq}
use Rattle.std.specs.Cmp.{IsEquivalence}
use Rattle.std.specs.Cmp.Lexicographic.{nat_list_eq_equiv}
use Rattle.std.proofs.lemmas.Map.Text.{is_eq-slice_cmp}
use Rattle.text_types.specs.Names.{Lacks}
use Rattle.text_types.specs.Texts.{text_cmp}
use Rattle.schema_model.specs.Tables.{place_of, entry}

abbrev pub Pairs : Type 0 → Type 0
Pairs X = List (List ℕ × X)

abbrev named : {X : Type 0} → List ℕ → List ℕ × X → Bool
named name p = bytes_eq name p.0

-- ---- a name that has no place is no pair's name

lacks_case : {X : Type 0} (name : List ℕ) (i : ℕ) (p : List ℕ × X) (ps : Pairs X) (b : Bool) → bytes_eq name p.0 ≡ b
    → (position_from (named name) (i + 1) ps ≡ None → Lacks ps name)
    → cond b (Some i) (position_from (named name) (i + 1) ps) ≡ None → Lacks (p ∷ ps) name
lacks_case name i p ps true is later none = absurd (cc)
lacks_case name i p ps false is later none = (nat_list_eq_equiv.symm p.0 name ∙ is, later none)

lacks_from : {X : Type 0} (name : List ℕ) (i : ℕ) (ps : Pairs X) → position_from (named name) i ps ≡ None → Lacks ps name
lacks_from name i [] none = tt
lacks_from name i (p ∷ ps) none = lacks_case name i p ps (bytes_eq name p.0) refl (lacks_from name (i + 1) ps) none

pub Lacks-unplaced : {X : Type 0} (ps : Pairs X) (name : List ℕ) → place_of ps name ≡ None → Lacks ps name
Lacks-unplaced ps name none = lacks_from name 0 ps none

-- ---- one pair more

more_case : {X : Type 0} (t : List ℕ × X → Bool) (i : ℕ) (ps : Pairs X) (q : List ℕ × X) (b : Bool) (o : Option ℕ)
    → o ≡ option_or (position_from t (i + 1) ps) (cond (t q) (Some (i + 1 + length ps)) None)
    → cond b (Some i) o ≡ option_or (cond b (Some i) (position_from t (i + 1) ps)) (cond (t q) (Some (i + suc (length ps))) None)
more_case t i ps q true o is = refl
more_case t i ps q false o is = is ∙ ap (λ n. option_or (position_from t (i + 1) ps) (cond (t q) (Some n) None)) (omega arith)

position_more : {X : Type 0} (t : List ℕ × X → Bool) (i : ℕ) (ps : Pairs X) (q : List ℕ × X)
    → position_from t i (ps ++ q ∷ []) ≡ option_or (position_from t i ps) (cond (t q) (Some (i + length ps)) None)
position_more t i [] q = ap (λ n. cond (t q) (Some n) None) (omega arith)
position_more t i (p ∷ ps) q = more_case t i ps q (t p) _ (position_more t (i + 1) ps q)

position_congr : {X : Type 0} (t u : List ℕ × X → Bool) (i : ℕ) (ps : Pairs X) → ((p : List ℕ × X) → t p ≡ u p) → position_from t i ps ≡ position_from u i ps
position_congr t u i [] same = refl
position_congr t u i (p ∷ ps) same =
    ap (λ b. cond b (Some i) (position_from t (i + 1) ps)) (same p)
    ∙ ap (cond (u p) (Some i)) (position_congr t u (i + 1) ps same)

or_none : (o : Option ℕ) → option_or o None ≡ o
or_none None = refl
or_none (Some n) = refl

with_case : {X : Type 0} (ps : Pairs X) (name q : List ℕ) (value : X) (b : Bool) → bytes_eq name q ≡ b → place_of ps name ≡ None
    → option_or (place_of ps q) (cond b (Some (length ps)) None) ≡ cond b (Some (length ps)) (place_of ps q)
with_case ps name q value true is none =
    ap (λ o. option_or o (Some (length ps)))
    (sym (position_congr (named name) (named q) 0 ps (λ p. nat_list_eq_equiv.congr name q p.0 is)) ∙ none)
with_case ps name q value false is none = or_none (place_of ps q)

-- what a map of places has with one name more
pub places_with : {X : Type 0} (ps : Pairs X) (name q : List ℕ) (value : X) → place_of ps name ≡ None
    → cond (is_eq (text_cmp name q)) (Some (length ps)) (place_of ps q) ≡ place_of (ps ++ (name, value) ∷ []) q
places_with ps name q value none =
    ap (λ b. cond b (Some (length ps)) (place_of ps q)) (is_eq-slice_cmp name q)
    ∙ sym (with_case ps name q value (bytes_eq name q) refl none)
    ∙ ap (λ b. option_or (place_of ps q) (cond b (Some (length ps)) None)) (nat_list_eq_equiv.symm name q)
    ∙ ap (λ n. option_or (place_of ps q) (cond (bytes_eq q name) (Some n) None)) (omega arith)
    ∙ sym (position_more (named q) 0 ps (name, value))

-- ---- the value at a place

past_case : {X : Type 0} (t : List ℕ × X → Bool) (i k : ℕ) (ps : Pairs X) (b : Bool) → (position_from t (i + 1) ps ≡ Some k → i + 1 ≤ k)
    → cond b (Some i) (position_from t (i + 1) ps) ≡ Some k → i ≤ k
past_case t i k ps true later at = let e : i ≡ k = same_Some i k at in omega arith
past_case t i k ps false later at = let h : i + 1 ≤ k = later at in omega arith

position_past : {X : Type 0} (t : List ℕ × X → Bool) (i k : ℕ) (ps : Pairs X) → position_from t i ps ≡ Some k → i ≤ k
position_past t i k [] at = absurd (cc)
position_past t i k (p ∷ ps) at = past_case t i k ps (t p) (position_past t (i + 1) k ps) at

entry_case : {X : Type 0} (name : List ℕ) (i j k : ℕ) (p : List ℕ × X) (ps : Pairs X) (b : Bool) → k ≡ i + j
    → ((j' : ℕ) → k ≡ i + 1 + j' → position_from (named name) (i + 1) ps ≡ Some k → lookup (bytes_eq name) ps ≡ option_map (λ q. q.1) (slice_get ps j'))
    → cond b (Some i) (position_from (named name) (i + 1) ps) ≡ Some k
    → cond b (Some p.1) (lookup (bytes_eq name) ps) ≡ option_map (λ q. q.1) (slice_get (p ∷ ps) j)
entry_case name i zero k p ps true is later at = refl
entry_case name i (suc j) k p ps true is later at = let e : i ≡ k = same_Some i k at in absurd (omega arith)
entry_case name i zero k p ps false is later at = let h : i + 1 ≤ k = position_past (named name) (i + 1) k ps at in absurd (omega arith)
entry_case name i (suc j) k p ps false is later at = later j (omega arith) at

entry_from : {X : Type 0} (name : List ℕ) (i : ℕ) (ps : Pairs X) (j k : ℕ) → k ≡ i + j → position_from (named name) i ps ≡ Some k
    → lookup (bytes_eq name) ps ≡ option_map (λ q. q.1) (slice_get ps j)
entry_from name i [] j k is at = absurd (cc)
entry_from name i (p ∷ ps) j k is at = entry_case name i j k p ps (bytes_eq name p.0) is (λ j' e. entry_from name (i + 1) ps j' k e) at

-- the value of a name is that of the pair at its place
pub entry_at : {X : Type 0} (ps : Pairs X) (name : List ℕ) (k : ℕ) → place_of ps name ≡ Some k → entry ps name ≡ option_map (λ q. q.1) (slice_get ps k)
entry_at ps name k at = entry_from name 0 ps k k (omega arith) at

none_case : {X : Type 0} (name : List ℕ) (i : ℕ) (p : List ℕ × X) (ps : Pairs X) (b : Bool)
    → (position_from (named name) (i + 1) ps ≡ None → lookup (bytes_eq name) ps ≡ None)
    → cond b (Some i) (position_from (named name) (i + 1) ps) ≡ None → cond b (Some p.1) (lookup (bytes_eq name) ps) ≡ None
none_case name i p ps true later none = absurd (cc)
none_case name i p ps false later none = later none

none_from : {X : Type 0} (name : List ℕ) (i : ℕ) (ps : Pairs X) → position_from (named name) i ps ≡ None → lookup (bytes_eq name) ps ≡ None
none_from name i [] none = refl
none_from name i (p ∷ ps) none = none_case name i p ps (bytes_eq name p.0) (none_from name (i + 1) ps) none

-- a name without a place has no value
pub entry_unplaced : {X : Type 0} (ps : Pairs X) (name : List ℕ) → place_of ps name ≡ None → entry ps name ≡ None
entry_unplaced ps name none = none_from name 0 ps none
