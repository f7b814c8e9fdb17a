-- Places by names alone.
use Rattle.std.proofs.Common.{◌≡◌, ℕ, ◌+◌, List, [], ◌∷◌, ◌++◌, refl, sym, ap, ◌∙◌, Bool, true, false, cond, bytes_eq}
use Rattle.std.specs.Prelude.{Option, None, Some, is_some, if◌then◌else◌}
use Rattle.std.specs.List.{position_from, AllByRecursion}
use Rattle.std.specs.Cmp.Lexicographic.{nat_list_eq_equiv}
use Rattle.text_types.specs.Names.{names_of, Lacks}
use Rattle.schema_model.specs.Tables.{place_of, put}

position_names : {X : Type 0} (name : List ℕ) (i : ℕ) (ps : List (List ℕ × X)) → position_from (λ p. bytes_eq name p.0) i ps ≡ position_from (bytes_eq name) i (names_of ps)
position_names name i [] = refl
position_names name i (p ∷ ps) = ap (cond (bytes_eq name p.0) (Some i)) (position_names name (i + 1) ps)

-- pairs with the same names have a name at the same place
pub place_by_names : {X Y : Type 0} (ps : List (List ℕ × X)) (qs : List (List ℕ × Y)) (name : List ℕ) → names_of ps ≡ names_of qs → place_of ps name ≡ place_of qs name
place_by_names ps qs name same = position_names name 0 ps ∙ ap (position_from (bytes_eq name) 0) same ∙ sym (position_names name 0 qs)

lacks_case : (name : List ℕ) (i : ℕ) (n : List ℕ) (ns : List (List ℕ)) (b : Bool) → bytes_eq name n ≡ b
    → (position_from (bytes_eq name) (i + 1) ns ≡ None → AllByRecursion (λ m. bytes_eq m name ≡ false) ns)
    → cond b (Some i) (position_from (bytes_eq name) (i + 1) ns) ≡ None → AllByRecursion (λ m. bytes_eq m name ≡ false) (n ∷ ns)
lacks_case name i n ns true is later none = absurd (cc)
lacks_case name i n ns false is later none = (nat_list_eq_equiv.symm n name ∙ is, later none)

lacks_from : (name : List ℕ) (i : ℕ) (ns : List (List ℕ)) → position_from (bytes_eq name) i ns ≡ None → AllByRecursion (λ m. bytes_eq m name ≡ false) ns
lacks_from name i [] none = tt
lacks_from name i (n ∷ ns) none = lacks_case name i n ns (bytes_eq name n) refl (lacks_from name (i + 1) ns) none

-- a name without a place is no pair's name
pub lacks_unplaced : {X : Type 0} (ps : List (List ℕ × X)) (name : List ℕ) → place_of ps name ≡ None → Lacks ps name
lacks_unplaced ps name none = lacks_from name 0 (names_of ps) (sym (position_names name 0 ps) ∙ none)

-- one pair more, whose name is new
pub put_new : {X : Type 0} (ps : List (List ℕ × X)) (p : List ℕ × X) → place_of ps p.0 ≡ None → put ps p ≡ ps ++ p ∷ []
put_new ps p none = ap (λ (o : Option ℕ). if is_some o then ps else ps ++ p ∷ []) none

put_by : {X : Type 0} (ps : List (List ℕ × X)) (p : List ℕ × X) (b : Bool) → is_some (place_of ps p.0) ≡ b → put ps p ≡ (if b then ps else ps ++ p ∷ [])
put_by ps p b is = ap (λ (c : Bool). if c then ps else ps ++ p ∷ []) is

-- a pair whose name is there
pub put_old : {X : Type 0} (ps : List (List ℕ × X)) (p : List ℕ × X) → is_some (place_of ps p.0) ≡ true → ps ≡ put ps p
put_old ps p is = sym (put_by ps p true is)

-- a pair whose name isn't there
pub put_fresh : {X : Type 0} (ps : List (List ℕ × X)) (p : List ℕ × X) → is_some (place_of ps p.0) ≡ false → ps ++ p ∷ [] ≡ put ps p
put_fresh ps p is = sym (put_by ps p false is)

pub none_of : (o : Option ℕ) → is_some o ≡ false → o ≡ None
none_of None is = refl
none_of (Some n) is = absurd (cc)
