-- Where a type stands in two lists that give the same types by name.
use Rattle.std.proofs.Common.{◌≡◌, ℕ, zero, suc, ◌+◌, ◌≤◌, Bool, true, false, cond, List, [], ◌∷◌, map, get_or, slice_get, refl, sym, ap, subst, ◌∙◌, ⊎_elim, arith, Option, Some, is_some, unwrap_or, option_and_then, bytes_eq}
use Rattle.std.specs.List.{position_from}
use Rattle.std.specs.Cmp.Lexicographic.{nat_list_eq_equiv, bytes_decides}
use Rattle.std.proofs.lemmas.Bool.{cases_Bool, false≢true}
use Rattle.digraph.specs.Walks.{is_among}
use Rattle.schema_model.specs.Tables.{place_of, entry}
use Rattle.schema_order.proofs.FirstLaws.{tick, cases, none_some, same_some}
use Rattle.schema_order.proofs.TabledLaws.{placed_from}
use Rattle.schema_order.proofs.PartsLaws.{named, named_cons}

-- what stands at the place of a name
pub record IsAt {X : Type 0} (ps : List (List ℕ × X)) (name : List ℕ) (place : ℕ) : Type 0 where
  pub pair : List ℕ × X
  pub there : slice_get ps place ≡ Some pair
  pub same : bytes_eq name pair.0 ≡ true
  pub first : entry ps name ≡ Some pair.1

module _ {X : Type 0} where
  abbrev Found : List (List ℕ × X) → List ℕ → ℕ → ℕ → Type 0
  Found ps name i k = (j : ℕ) × ((k ≡ i + j) × IsAt ps name j)

  found_case : (name : List ℕ) (p : List ℕ × X) (ps : List (List ℕ × X)) (i k : ℕ) (b : Bool) → bytes_eq name p.0 ≡ b
      → cond b (Some i) (position_from (λ q. bytes_eq name q.0) (i + 1) ps) ≡ Some k
      → (position_from (λ q. bytes_eq name q.0) (i + 1) ps ≡ Some k → Found ps name (i + 1) k)
      → Found (p ∷ ps) name i k
  found_case name p ps i k true is e rest =
      let same : i ≡ k = same_some i k e in
      (0, (omega arith, record { pair = p; there = refl; same = is; first = ap (λ c. cond c (Some p.1) (entry ps name)) is }))
  found_case name p ps i k false is e rest =
      let behind = rest e in
      let at = behind.1.1 in (
        suc behind.0,
        (
          let l = behind.1.0 in omega arith,
          record {
            pair = at.pair;
            there = at.there;
            same = at.same;
            first = ap (λ c. cond c (Some p.1) (entry ps name)) is ∙ at.first;
          },
        ),
      )

  found_from : (name : List ℕ) (ps : List (List ℕ × X)) (i k : ℕ) → position_from (λ q. bytes_eq name q.0) i ps ≡ Some k → Found ps name i k
  found_from name [] i k e = absurd (none_some k (sym e))
  found_from name (p ∷ ps) i k e = found_case name p ps i k (bytes_eq name p.0) refl e (found_from name ps (i + 1) k)

  pub at_place : (ps : List (List ℕ × X)) (name : List ℕ) (place : ℕ) → place_of ps name ≡ Some place → IsAt ps name place
  at_place ps name place e =
      let found = found_from name ps 0 place e in
      let l = found.1.0 in
      let same : found.0 ≡ place = omega arith in
      subst (IsAt ps name) same found.1.1

  -- a pair that is there is counted
  there_named : (ps : List (List ℕ × X)) (i : ℕ) (p : List ℕ × X) → slice_get ps i ≡ Some p → 1 ≤ named p.0 ps
  there_named [] i p e = absurd (none_some p (sym e))
  there_named (q ∷ ps) zero p e =
      let step = named_cons p.0 q ps in
      let same : q ≡ p = same_some q p e in
      let one : tick (bytes_eq p.0 q.0) ≡ 1 = ap tick (ap (λ (r : List ℕ × X). bytes_eq p.0 r.0) same ∙ nat_list_eq_equiv.refl p.0) in
      omega arith
  there_named (q ∷ ps) (suc i) p e = let step = named_cons p.0 q ps in let rest = there_named ps i p e in omega arith

  own_from : (ps : List (List ℕ × X)) (s i : ℕ) (p : List ℕ × X) → named p.0 ps ≤ 1 → slice_get ps i ≡ Some p → position_from (λ q. bytes_eq p.0 q.0) s ps ≡ Some (s + i)
  own_from [] s i p few e = absurd (none_some p (sym e))
  own_from (q ∷ ps) s zero p few e =
      let same : q ≡ p = same_some q p e in
      let same_name : bytes_eq p.0 q.0 ≡ true = ap (λ (r : List ℕ × X). bytes_eq p.0 r.0) same ∙ nat_list_eq_equiv.refl p.0 in
      let at : s ≡ s + 0 = omega arith in
      ap (λ b. cond b (Some s) (position_from (λ r. bytes_eq p.0 r.0) (s + 1) ps)) same_name ∙ ap Some at
  own_from (q ∷ ps) s (suc i) p few e =
      let step = named_cons p.0 q ps in
      let behind = there_named ps i p e in
      ⊎_elim
      (λ here. let one : tick (bytes_eq p.0 q.0) ≡ 1 = ap tick here in absurd (omega arith))
      (λ not_here.
      let none : tick (bytes_eq p.0 q.0) ≡ 0 = ap tick not_here in
      let at : (s + 1) + i ≡ s + suc i = omega arith in
      ap (λ b. cond b (Some s) (position_from (λ r. bytes_eq p.0 r.0) (s + 1) ps)) not_here
      ∙ own_from ps (s + 1) i p (omega arith) e
      ∙ ap Some at)
      (cases_Bool (bytes_eq p.0 q.0))

  -- a pair whose name no other has is the one that its name finds
  pub own_place : (ps : List (List ℕ × X)) (i : ℕ) (p : List ℕ × X) → named p.0 ps ≤ 1 → slice_get ps i ≡ Some p → place_of ps p.0 ≡ Some i
  own_place ps i p few e = own_from ps 0 i p few e ∙ ap Some (zero_add i)
    where
      zero_add : (n : ℕ) → 0 + n ≡ n
      zero_add n = omega arith

  -- ---- two lists

  module _ (ps qs : List (List ℕ × X)) (found : (name : List ℕ) → entry ps name ≡ entry qs name) (few : (name : List ℕ) → named name ps ≤ 1) where
    -- the place in the second list of what stands at a place in the first
    abbrev pub moved : ℕ → ℕ
    moved i = unwrap_or (option_and_then (λ (p : List ℕ × X). place_of qs p.0) (slice_get ps i)) 0

    placed_too : (name : List ℕ) (k : ℕ) → place_of ps name ≡ Some k → (m : ℕ) × (place_of qs name ≡ Some m)
    placed_too name k e =
        let both : is_some (place_of qs name) ≡ true =
        placed_from name 0 qs ∙ ap is_some (sym (found name)) ∙ sym (placed_from name 0 ps) ∙ ap is_some e in
        ⊎_elim
        (λ none. absurd (false≢true (sym (ap is_some none) ∙ both)))
        (λ some. some)
        (cases (place_of qs name))

    pub moved_place : (name : List ℕ) (k : ℕ) → place_of ps name ≡ Some k → place_of qs name ≡ Some (moved k)
    moved_place name k e =
        let at = at_place ps name k e in
        let other = placed_too name k e in
        let same : name ≡ at.pair.0 = (bytes_decides name at.pair.0).0 at.same in
        let is : moved k ≡ other.0 =
        ap (λ (o : Option (List ℕ × X)). unwrap_or (option_and_then (λ (p : List ℕ × X). place_of qs p.0) o) 0) at.there
        ∙ ap (λ (n : List ℕ). unwrap_or (place_of qs n) 0) (sym same)
        ∙ ap (λ (o : Option ℕ). unwrap_or o 0) other.1 in
        other.1 ∙ ap Some (sym is)

    -- what stands there has the same content
    pub moved_pair : (i : ℕ) (p : List ℕ × X) → slice_get ps i ≡ Some p → (q : List ℕ × X) × ((slice_get qs (moved i) ≡ Some q) × (q.1 ≡ p.1))
    moved_pair i p e =
        let own : place_of ps p.0 ≡ Some i = own_place ps i p (few p.0) e in
        let here = at_place ps p.0 i own in
        let there = at_place qs p.0 (moved i) (moved_place p.0 i own) in
        let same_here : here.pair ≡ p = same_some here.pair p (sym here.there ∙ e) in
        let same : there.pair.1 ≡ here.pair.1 =
        same_some there.pair.1 here.pair.1 (sym there.first ∙ sym (found p.0) ∙ here.first) in
        (there.pair, (there.there, same ∙ ap (λ (r : List ℕ × X). r.1) same_here))

-- ---- what a list gives at a place

pub among_at : {Y : Type 0} (f : Y → List ℕ) (ys : List Y) (i j : ℕ) → is_among j (get_or (map f ys) i []) ≡ true
    → (y : Y) × ((slice_get ys i ≡ Some y) × (is_among j (f y) ≡ true))
among_at f [] i j e = absurd (false≢true e)
among_at f (y ∷ ys) zero j e = (y, (refl, e))
among_at f (y ∷ ys) (suc i) j e = among_at f ys i j e

pub given_at : {Y : Type 0} (f : Y → List ℕ) (ys : List Y) (i : ℕ) (y : Y) → slice_get ys i ≡ Some y → get_or (map f ys) i [] ≡ f y
given_at f [] i y e = absurd (none_some y (sym e))
given_at f (z ∷ ys) zero y e = ap f (same_some z y e)
given_at f (z ∷ ys) (suc i) y e = given_at f ys i y e
