-- One definition more in an index of fragments.
use Rattle.std.proofs.Common.{◌≡◌, ℕ, ◌+◌, List, [], ◌∷◌, ◌++◌, length, refl, ap, sym, ◌∙◌, Bool, true, false, cond, bytes_eq}
use Rattle.std.specs.Prelude.{Option, None, Some, is_some, is_none, slice_get}
use Rattle.std.specs.Option.{option_or, option_and_then}
use Rattle.std.specs.Ordering.{is_eq}
use Rattle.std.specs.List.{find, position_from}
use Rattle.std.specs.Cmp.Lexicographic.{nat_list_eq_equiv}
use Rattle.std.proofs.lemmas.Map.Text.{is_eq-slice_cmp}
use Rattle.text_types.specs.Texts.{text_cmp}
use Rattle.gql_model.specs.declared.executable.Fragment.{Fragment}
use Rattle.gql_model.specs.declared.document.Definition.{Definition}
use Rattle.gql_model.specs.declared.document.Definition.TheVariants as definition
use Rattle.check_model.specs.Executables.{defines, as_fragment}
use Rattle.check_model.proofs.ListLaws.{position_push, position_congr, or_none, find_place}

-- a definition that is no fragment adds nothing
pub other_push : (ds : List Definition) (d : Definition) (name : List ℕ) → defines name d ≡ false → position_from (defines name) 0 (ds ++ d ∷ []) ≡ position_from (defines name) 0 ds
other_push ds d name isn't =
    position_push (defines name) ds d
    ∙ ap (λ b. option_or (position_from (defines name) 0 ds) (cond b (Some (length ds)) None)) isn't
    ∙ or_none (position_from (defines name) 0 ds)

-- equal names are those of the same fragments
defines_congr : (p q : List ℕ) → bytes_eq p q ≡ true → (d : Definition) → defines p d ≡ defines q d
defines_congr p q same (definition.Operation o) = refl
defines_congr p q same (definition.Fragment f) = nat_list_eq_equiv.congr p q f.name.text same
defines_congr p q same (definition.TypeSystem t) = refl

some_or : (o p : Option ℕ) → is_some o ≡ true → option_or o p ≡ o
some_or None p is = absurd (cc)
some_or (Some n) p is = refl

none_or : (o p : Option ℕ) → is_some o ≡ false → option_or o p ≡ p
none_or None p is = refl
none_or (Some n) p is = absurd (cc)

known_case : (ds : List Definition) (f : Fragment) (q : List ℕ) (b : Bool) → bytes_eq q f.name.text ≡ b
    → is_some (position_from (defines f.name.text) 0 ds) ≡ true
    → option_or (position_from (defines q) 0 ds) (cond b (Some (length ds)) None) ≡ position_from (defines q) 0 ds
known_case ds f q true same known =
    some_or (position_from (defines q) 0 ds) (Some (length ds)) (ap is_some (position_congr (defines q) (defines f.name.text) 0 ds (defines_congr q f.name.text same)) ∙ known)
known_case ds f q false same known = or_none (position_from (defines q) 0 ds)

-- a fragment of a name that is there adds nothing
pub known_push : (ds : List Definition) (f : Fragment) (q : List ℕ) → is_some (position_from (defines f.name.text) 0 ds) ≡ true
    → position_from (defines q) 0 ds ≡ position_from (defines q) 0 (ds ++ definition.Fragment f ∷ [])
known_push ds f q known = sym (position_push (defines q) ds (definition.Fragment f) ∙ known_case ds f q (bytes_eq q f.name.text) refl known)

new_case : (ds : List Definition) (f : Fragment) (q : List ℕ) (b : Bool) → bytes_eq q f.name.text ≡ b
    → is_some (position_from (defines f.name.text) 0 ds) ≡ false
    → cond b (Some (length ds)) (position_from (defines q) 0 ds) ≡ option_or (position_from (defines q) 0 ds) (cond b (Some (length ds)) None)
new_case ds f q true same new =
    sym (none_or (position_from (defines q) 0 ds) (Some (length ds)) (ap is_some (position_congr (defines q) (defines f.name.text) 0 ds (defines_congr q f.name.text same)) ∙ new))
new_case ds f q false same new = sym (or_none (position_from (defines q) 0 ds))

-- a fragment of a new name
pub new_push : (ds : List Definition) (f : Fragment) (q : List ℕ) → is_some (position_from (defines f.name.text) 0 ds) ≡ false
    → cond (is_eq (text_cmp f.name.text q)) (Some (length ds)) (position_from (defines q) 0 ds) ≡ position_from (defines q) 0 (ds ++ definition.Fragment f ∷ [])
new_push ds f q new =
    ap (λ b. cond b (Some (length ds)) (position_from (defines q) 0 ds)) (is_eq-slice_cmp f.name.text q ∙ nat_list_eq_equiv.symm f.name.text q)
    ∙ new_case ds f q (bytes_eq q f.name.text) refl new
    ∙ sym (position_push (defines q) ds (definition.Fragment f))

unplaced_case : (name : List ℕ) (i : ℕ) (f : Fragment) (ds : List Definition) (b : Bool)
    → is_none (position_from (defines name) (i + 1) ds) ≡ is_none (option_and_then as_fragment (find (defines name) ds))
    → is_none (cond b (Some i) (position_from (defines name) (i + 1) ds)) ≡ is_none (option_and_then as_fragment (cond b (Some (definition.Fragment f)) (find (defines name) ds)))
unplaced_case name i f ds true later = refl
unplaced_case name i f ds false later = later

-- a name has no place where no fragment has it
pub unplaced : (name : List ℕ) (i : ℕ) (ds : List Definition) → is_none (position_from (defines name) i ds) ≡ is_none (option_and_then as_fragment (find (defines name) ds))
unplaced name i [] = refl
unplaced name i (definition.Operation o ∷ ds) = unplaced name (i + 1) ds
unplaced name i (definition.Fragment f ∷ ds) = unplaced_case name i f ds (defines name (definition.Fragment f)) (unplaced name (i + 1) ds)
unplaced name i (definition.TypeSystem t ∷ ds) = unplaced name (i + 1) ds

place_case : (ds : List Definition) (o : Option ℕ)
    → option_and_then (λ k. option_and_then as_fragment (slice_get ds k)) o ≡ option_and_then as_fragment (option_and_then (slice_get ds) o)
place_case ds None = refl
place_case ds (Some k) = refl

-- the fragment at the place of a name is that of the name
pub fragment_by_place : (name : List ℕ) (ds : List Definition) (o : Option ℕ) → o ≡ position_from (defines name) 0 ds
    → option_and_then (λ k. option_and_then as_fragment (slice_get ds k)) o ≡ option_and_then as_fragment (find (defines name) ds)
fragment_by_place name ds o is =
    place_case ds o
    ∙ ap (λ p. option_and_then as_fragment (option_and_then (slice_get ds) p)) is
    ∙ ap (option_and_then as_fragment) (sym (find_place (defines name) ds))
