-- What a table finds is what stands first in the list that it is made of.
use Rattle.std.proofs.Common.{◌≡◌, ℕ, ◌+◌, Bool, true, false, cond, List, [], ◌∷◌, ◌++◌, refl, sym, ap, ◌∙◌, Option, Some, None, is_some, bytes_eq}
use Rattle.std.specs.Option.{option_or}
use Rattle.std.specs.List.{fold, flat_map, position_from}
use Rattle.std.specs.Cmp.Lexicographic.{nat_list_eq_equiv}
use Rattle.schema_model.specs.Tables.{place_of, entry, put, tabled}
use Rattle.schema_order.proofs.FirstLaws.{first}

abbrev Pairs : Type 0 → Type 0
Pairs X = List (List ℕ × X)

-- a pair alone
abbrev one : {X : Type 0} → List ℕ → List ℕ × X → Option X
one name p = cond (bytes_eq name p.0) (Some p.1) None

pub or_assoc : {X : Type 0} (a b c : Option X) → option_or (option_or a b) c ≡ option_or a (option_or b c)
or_assoc None b c = refl
or_assoc (Some x) b c = refl

pub or_none : {X : Type 0} (a : Option X) → option_or a None ≡ a
or_none None = refl
or_none (Some x) = refl

cons_case : {X : Type 0} (b : Bool) (x : X) (o : Option X) → cond b (Some x) o ≡ option_or (cond b (Some x) None) o
cons_case true x o = refl
cons_case false x o = refl

entry_cons : {X : Type 0} (name : List ℕ) (p : List ℕ × X) (ps : Pairs X) → entry (p ∷ ps) name ≡ option_or (one name p) (entry ps name)
entry_cons name p ps = cons_case (bytes_eq name p.0) p.1 (entry ps name)

pub entry-append : {X : Type 0} (name : List ℕ) (ps qs : Pairs X) → entry (ps ++ qs) name ≡ option_or (entry ps name) (entry qs name)
entry-append name [] qs = refl
entry-append name (p ∷ ps) qs =
    entry_cons name p (ps ++ qs)
    ∙ ap (option_or (one name p)) (entry-append name ps qs)
    ∙ sym (or_assoc (one name p) (entry ps name) (entry qs name))
    ∙ ap (λ o. option_or o (entry qs name)) (sym (entry_cons name p ps))

-- a name that has a place is found
placed_case : {X : Type 0} (b : Bool) (i : ℕ) (x : X) (o : Option ℕ) (r : Option X) → (is_some o ≡ is_some r) → is_some (cond b (Some i) o) ≡ is_some (cond b (Some x) r)
placed_case true i x o r same = refl
placed_case false i x o r same = same

pub placed_from : {X : Type 0} (name : List ℕ) (i : ℕ) (ps : Pairs X) → is_some (position_from (λ p. bytes_eq name p.0) i ps) ≡ is_some (entry ps name)
placed_from name i [] = refl
placed_from name i (p ∷ ps) = placed_case (bytes_eq name p.0) i p.1 _ (entry ps name) (placed_from name (i + 1) ps)

pub entry_congr : {X : Type 0} (a b : List ℕ) (ps : Pairs X) → bytes_eq a b ≡ true → entry ps a ≡ entry ps b
entry_congr a b [] same = refl
entry_congr a b (p ∷ ps) same =
    ap (λ t. cond t (Some p.1) (entry ps a)) (nat_list_eq_equiv.congr a b p.0 same)
    ∙ ap (cond (bytes_eq b p.0) (Some p.1)) (entry_congr a b ps same)

-- a pair whose name is there already adds nothing
known_case : {X : Type 0} (b : Bool) (x : X) (o : Option X) → (b ≡ true → is_some o ≡ true) → o ≡ option_or o (cond b (Some x) None)
known_case true x None h = absurd (cc (h refl))
known_case true x (Some y) h = refl
known_case false x o h = sym (or_none o)

put_case : {X : Type 0} (name : List ℕ) (ps : Pairs X) (p : List ℕ × X) (b : Bool) → is_some (entry ps p.0) ≡ b
    → entry (cond b ps (ps ++ p ∷ [])) name ≡ option_or (entry ps name) (one name p)
put_case name ps p true is =
    known_case (bytes_eq name p.0) p.1 (entry ps name) (λ same. ap is_some (entry_congr name p.0 ps same) ∙ is)
put_case name ps p false is = entry-append name ps (p ∷ []) ∙ ap (option_or (entry ps name)) (entry_cons name p [] ∙ or_none (one name p))

entry_put : {X : Type 0} (name : List ℕ) (ps : Pairs X) (p : List ℕ × X) → entry (put ps p) name ≡ option_or (entry ps name) (one name p)
entry_put name ps p = put_case name ps p (is_some (place_of ps p.0)) (sym (placed_from p.0 0 ps))

entry_fold : {X : Type 0} (name : List ℕ) (ps qs : Pairs X) → entry (fold put ps qs) name ≡ option_or (entry ps name) (entry qs name)
entry_fold name ps [] = sym (or_none (entry ps name))
entry_fold name ps (q ∷ qs) =
    entry_fold name (put ps q) qs
    ∙ ap (λ o. option_or o (entry qs name)) (entry_put name ps q)
    ∙ or_assoc (entry ps name) (one name q) (entry qs name)
    ∙ ap (option_or (entry ps name)) (sym (entry_cons name q qs))

pub entry_tabled : {X : Type 0} (name : List ℕ) (ps : Pairs X) → entry (tabled ps) name ≡ entry ps name
entry_tabled name ps = entry_fold name [] ps

-- the lists that items give, one behind another
pub entry_flat_map : {D X : Type 0} (name : List ℕ) (entries : D → Pairs X) (ds : List D) → entry (flat_map entries ds) name ≡ first (λ d. entry (entries d) name) ds
entry_flat_map name entries [] = refl
entry_flat_map name entries (d ∷ ds) =
    entry-append name (entries d) (flat_map entries ds) ∙ ap (option_or (entry (entries d) name)) (entry_flat_map name entries ds)

-- the first that is stated, from one that is known
pub fold_first : {D X : Type 0} (f : D → Option X) (known : Option X) (ds : List D) → fold (λ o d. option_or o (f d)) known ds ≡ option_or known (first f ds)
fold_first f known [] = sym (or_none known)
fold_first f known (d ∷ ds) = fold_first f (option_or known (f d)) ds ∙ or_assoc known (f d) (first f ds)
