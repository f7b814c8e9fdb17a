-- `Named` as a type that may hold the type that holds it.
use mathlib.Core.Path.{◌≡◌, refl, sym, ap, subst}
use mathlib.Core.List.{List, [], ◌∷◌, map}
use mathlib.Core.Former.{Former, this, const, pair, list, via, children}
use Prim.Native.Nat.{ℕ}
use base.Stored.{code_map, gcons, Coded, coded×, coded_list, coded_ℕ}
use denote.RattleType.{RattleType}
use denote.HoleLaws.{Alike}
use denote.HolePlaces.{Recodes, struct_places, laid}
use denote.Hole.Carrier.{listed}
use denote.Hole.Fix.{over}
use denote.Param.Weighed.{Weighed, w_list, w_pair, w_const}
use denote.Model.Placed.{view_places}
use denote.Struct.Tuple.{Tuple, tuple_type}
use Rattle.std.specs.Prelude.{bytes_eq}
use Rattle.std.specs.List.{IsDistinct}
use Rattle.std.proofs.lemmas.Map.Keys.{IsDistinct-prop}
use Rattle.std.specs.formers.vec.Vec as vec
use Rattle.std.specs.declared.alloc.Global.{Global}
use Rattle.std.specs.contracts.alloc.Global as heap
use Rattle.std.specs.contracts.impls.GlobalAllocator.TheImpl.{ghosts}
use Rattle.text_types.specs.contracts.text.Text as text
use Rattle.text_types.specs.Names.{names_of}
use Rattle.text_types.specs.declared.named.Named.TheInside.{Inside}
use Rattle.text_types.specs.declared.named.Named.TheView.{view, invariant}
use Rattle.text_types.specs.contracts.named.Named as C
use Rattle.text_types.specs.contracts.named.Named.TheInside as I

-- the code of a name: that of the list of its bytes
abbrev coded_name : Coded (List ℕ)
coded_name = coded_list coded_ℕ

-- a name beside a value
abbrev pub named : Former {0} → Former {0}
named g = pair (const (List ℕ)) g

-- `Named` of what has the shape `g` around a type: a list of names beside it, which holds that type wherever a value does
abbrev pub the_former : Former {0} → Former {0}
the_former g = list (named g)

-- the largest measure among what the values beside the names hold, where `g` has one for each value
abbrev pub the_weighed : {g : Former {0}} → Weighed g → Weighed (the_former g)
the_weighed w = w_list (w_pair (w_const (List ℕ)) w)

-- the list without pairs, so that a type that holds such lists of itself has a value at all
abbrev pub the_empty : List (List ℕ × ⊥)
the_empty = []

-- what a list of pairs holds is the values beside its names, in order
abbrev pub the_items : (X : Type 0) → List (List ℕ × X) → List X
the_items X d = map (λ p. p.1) d

-- the values that the shape lays in a row are those beside the names, in their order
pub the_items_listed : (X : Type 0) (d : List (List ℕ × X)) → listed _ (children (the_former this) X d) ≡ the_items X d
the_items_listed X [] = refl
the_items_listed X (p ∷ ps) = ap (λ l. p.1 ∷ l) (the_items_listed X ps)

-- the shape of the struct itself: its one field, a `Vec` of names beside values, holds the values
abbrev fields : Former {0}
fields = via (vec.the_former (named this) Global) Inside (λ X a. a.pairs) (λ X v. record { pairs = v }) (λ X a. refl) (λ X v. refl)

-- another value beside each name leaves the names as they are
same_names : {X Y : Type 0} (h : X → Y) (ps : List (List ℕ × X)) → names_of (map (λ p. (p.0, h p.1)) ps) ≡ names_of ps
same_names h [] = refl
same_names h (p ∷ ps) = λ i. p.0 ∷ same_names h ps i

module _ (R S : RattleType) (h : R.Denot → S.Denot) where
  -- the type of a pair in memory: a `Text` and a value
  abbrev row_of : RattleType → RattleType
  row_of T = Tuple (text.the_row ∷ T ∷ [])

  -- the pair with its value mapped by `h` and its name as it is
  abbrev on_value : List ℕ × R.Denot → List ℕ × S.Denot
  on_value p = (p.0, h p.1)

  -- over types that lie alike in memory, and own and lend alike, pairs that correspond do so too
  pair_places : Alike R S h → Alike (row_of R) (row_of S) on_value
  pair_places a = struct_places (tuple_type (text.the_row ∷ R ∷ [])) (tuple_type (text.the_row ∷ S ∷ [])) ((λ n. n), (h, tt)) _ (λ d. refl) refl
      ((refl, (λ n. refl, λ n. refl)), (laid _ _ _ a, tt))

  -- over types that lie alike in memory, and own and lend alike, lists of pairs that correspond do so too
  pub the_places : Alike R S h → Alike (C.the_row R) (C.the_row S) ((the_former this).map R.Denot S.Denot h)
  the_places a = view_places fields (the_former this) view (λ X Y k u. refl) (λ X u. refl) R.Denot S.Denot h (C.the_row R).coded (C.the_row S).coded
      (invariant R.Denot) (invariant S.Denot) (λ u. IsDistinct-prop bytes_eq _) (λ u. IsDistinct-prop bytes_eq _)
      (λ u. subst (IsDistinct bytes_eq) (sym (same_names h u.pairs.items))) (λ u. subst (IsDistinct bytes_eq) (same_names h u.pairs.items))
      (over (I.the_row R)) (over (I.the_row S))
      (struct_places (I.the_type R) (I.the_type S) (vec.mapped on_value, tt) _ (λ d. refl) refl (laid _ _ _ (vec.the_places heap.the_row ghosts (row_of R) (row_of S) on_value (pair_places a)), tt))

  -- over two types with the same codes, lists of pairs that correspond have the same code
  pub the_codes_placed : Recodes R S h → Recodes (C.the_row R) (C.the_row S) ((the_former this).map R.Denot S.Denot h)
  the_codes_placed e d = sym (code_map (coded× coded_name R.coded).code (coded× coded_name S.coded).code on_value (λ x i. gcons (coded_name.code x.0) (sym (e x.1) i)) d)
