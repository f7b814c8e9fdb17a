-- One name more in an index.
use Rattle.std.proofs.Common.{◌≡◌, ℕ, ◌+◌, List, [], ◌∷◌, ◌++◌, length, map, refl, ap, sym, ◌∙◌, Bool, true, false, cond, bytes_eq}
use Rattle.std.specs.Prelude.{Option, None, Some, is_some, slice_get}
use Rattle.std.specs.Option.{option_or, option_and_then}
use Rattle.std.specs.Ordering.{is_eq}
use Rattle.std.specs.List.{position_from, find}
use Rattle.std.specs.Cmp.Lexicographic.{nat_list_eq_equiv}
use Rattle.std.proofs.lemmas.Map.Text.{is_eq-slice_cmp}
use Rattle.text_types.specs.Texts.{text_cmp}
use Rattle.check_model.proofs.ListLaws.{position_push, position_congr, or_none, find_place}

some_or : (o p : Option ℕ) → is_some o ≡ true → option_or o p ≡ o
some_or None p is = absurd (cc)
some_or (Some n) p is = refl

none_or : (o p : Option ℕ) → is_some o ≡ false → option_or o p ≡ p
none_or None p is = refl
none_or (Some n) p is = absurd (cc)

known_case : (ns : List (List ℕ)) (name q : List ℕ) (b : Bool) → bytes_eq q name ≡ b
    → is_some (position_from (bytes_eq name) 0 ns) ≡ true
    → option_or (position_from (bytes_eq q) 0 ns) (cond b (Some (length ns)) None) ≡ position_from (bytes_eq q) 0 ns
known_case ns name q true same known =
    some_or (position_from (bytes_eq q) 0 ns) (Some (length ns)) (ap is_some (position_congr (bytes_eq q) (bytes_eq name) 0 ns (λ n. nat_list_eq_equiv.congr q name n same)) ∙ known)
known_case ns name q false same known = or_none (position_from (bytes_eq q) 0 ns)

-- a name that is there adds nothing
pub known_push : (ns : List (List ℕ)) (name q : List ℕ) → is_some (position_from (bytes_eq name) 0 ns) ≡ true
    → position_from (bytes_eq q) 0 ns ≡ position_from (bytes_eq q) 0 (ns ++ name ∷ [])
known_push ns name q known = sym (position_push (bytes_eq q) ns name ∙ known_case ns name q (bytes_eq q name) refl known)

new_case : (ns : List (List ℕ)) (name q : List ℕ) (b : Bool) → bytes_eq q name ≡ b
    → is_some (position_from (bytes_eq name) 0 ns) ≡ false
    → cond b (Some (length ns)) (position_from (bytes_eq q) 0 ns) ≡ option_or (position_from (bytes_eq q) 0 ns) (cond b (Some (length ns)) None)
new_case ns name q true same new =
    sym (none_or (position_from (bytes_eq q) 0 ns) (Some (length ns)) (ap is_some (position_congr (bytes_eq q) (bytes_eq name) 0 ns (λ n. nat_list_eq_equiv.congr q name n same)) ∙ new))
new_case ns name q false same new = sym (or_none (position_from (bytes_eq q) 0 ns))

-- a new name
pub new_push : (ns : List (List ℕ)) (name q : List ℕ) → is_some (position_from (bytes_eq name) 0 ns) ≡ false
    → cond (is_eq (text_cmp name q)) (Some (length ns)) (position_from (bytes_eq q) 0 ns) ≡ position_from (bytes_eq q) 0 (ns ++ name ∷ [])
new_push ns name q new =
    ap (λ b. cond b (Some (length ns)) (position_from (bytes_eq q) 0 ns)) (is_eq-slice_cmp name q ∙ nat_list_eq_equiv.symm name q)
    ∙ new_case ns name q (bytes_eq q name) refl new
    ∙ sym (position_push (bytes_eq q) ns name)

-- a place among the names is one among what has them
pub placed_by : {X : Type 0} (name : X → List ℕ) (q : List ℕ) (i : ℕ) (xs : List X)
    → position_from (bytes_eq q) i (map name xs) ≡ position_from (λ x. bytes_eq q (name x)) i xs
placed_by name q i [] = refl
placed_by name q i (x ∷ xs) = ap (cond (bytes_eq q (name x)) (Some i)) (placed_by name q (i + 1) xs)

-- what stands at the place of a name is the first of that name
pub found_by_place : {X : Type 0} (name : X → List ℕ) (q : List ℕ) (xs : List X) (o : Option ℕ)
    → o ≡ position_from (bytes_eq q) 0 (map name xs) → option_and_then (slice_get xs) o ≡ find (λ x. bytes_eq q (name x)) xs
found_by_place name q xs o is =
    ap (option_and_then (slice_get xs)) (is ∙ placed_by name q 0 xs)
    ∙ sym (find_place (λ x. bytes_eq q (name x)) xs)
