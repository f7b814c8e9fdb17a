-- The places and the response keys of groups, with one group more and with one set more.
use Rattle.std.proofs.Common.{◌≡◌, ℕ, zero, suc, ◌+◌, List, [], ◌∷◌, ◌++◌, length, refl, sym, ap, subst, ◌∙◌, map, Bool, true, false, ◌||◌, cond, bytes_eq}
use Rattle.std.specs.Prelude.{slice_get, slice_set, Option, None, Some}
use Rattle.std.specs.Option.{option_or, option_map_or}
use Rattle.std.specs.List.{position_from, list_any, IsDistinct}
use Rattle.std.specs.Ordering.{is_eq}
use Rattle.std.specs.Cmp.Lexicographic.{nat_list_eq_equiv}
use Rattle.std.proofs.lemmas.List.{map-append}
use Rattle.std.proofs.lemmas.Map.Keys.{IsDistinct-push}
use Rattle.std.proofs.lemmas.Map.Text.{is_eq-slice_cmp}
use Rattle.text_types.specs.Texts.{text_cmp}
use Rattle.check_model.proofs.ListLaws.{position_push, position_congr, or_none}
use Rattle.execution_model.specs.declared.group.Group.{Group}
use Rattle.execution_model.specs.Collection.{has_key, group_place, with_own_set, joined_set}
use Rattle.gql_collection.specs.Keys.{HasDistinctKeys}

begun_case : (key name : List ℕ) (groups : List Group) (b : Bool) → bytes_eq key name ≡ b → group_place key groups ≡ None
    → option_or (group_place name groups) (cond b (Some (length groups)) None) ≡ cond b (Some (length groups)) (group_place name groups)
begun_case key name groups true is none =
    ap (λ o. option_or o (Some (length groups)))
    (sym (position_congr (has_key key) (has_key name) 0 groups (λ g. nat_list_eq_equiv.congr key name g.key is)) ∙ none)
begun_case key name groups false is none = or_none (group_place name groups)

-- what a map of places has with one group more
pub place_begun : (key name : List ℕ) (groups : List Group) (g : Group) → g.key ≡ key → group_place key groups ≡ None
    → cond (is_eq (text_cmp key name)) (Some (length groups)) (group_place name groups) ≡ group_place name (groups ++ g ∷ [])
place_begun key name groups g is none =
    ap (λ b. cond b (Some (length groups)) (group_place name groups)) (is_eq-slice_cmp key name)
    ∙ sym (begun_case key name groups (bytes_eq key name) refl none)
    ∙ ap (λ b. option_or (group_place name groups) (cond b (Some (length groups)) None)) (nat_list_eq_equiv.symm key name)
    ∙ ap (λ k. option_or (group_place name groups) (cond (bytes_eq name k) (Some (length groups)) None)) (sym is)
    ∙ sym (position_push (has_key name) groups g)

joined_from : (name : List ℕ) (set i : ℕ) (groups : List Group) (at : ℕ)
    → position_from (has_key name) i (option_map_or (λ g. slice_set groups at (with_own_set set g)) (slice_get groups at) groups) ≡ position_from (has_key name) i groups
joined_from name set i [] at = refl
joined_from name set i (g ∷ groups) zero = refl
joined_from name set i (g ∷ groups) (suc at) = later (slice_get groups at) (joined_from name set (i + 1) groups at)
  where
    later : (o : Option Group) → position_from (has_key name) (i + 1) (option_map_or (λ h. slice_set groups at (with_own_set set h)) o groups) ≡ position_from (has_key name) (i + 1) groups
        → position_from (has_key name) i (option_map_or (λ h. slice_set (g ∷ groups) (suc at) (with_own_set set h)) o (g ∷ groups)) ≡ position_from (has_key name) i (g ∷ groups)
    later None is = refl
    later (Some h) is = ap (cond (has_key name g) (Some i)) is

-- a set more changes no place
pub place_joined : (name : List ℕ) (groups : List Group) (at set : ℕ) → group_place name (joined_set groups at set) ≡ group_place name groups
place_joined name groups at set = joined_from name set 0 groups at

-- ---- response keys

pub no_keys : HasDistinctKeys []
unfolding IsDistinct
no_keys = tt

-- a key without a place is none of the keys
no_such_key : (key : List ℕ) (i : ℕ) (groups : List Group) → position_from (has_key key) i groups ≡ None → list_any (bytes_eq key) (map (λ g. g.key) groups) ≡ false
no_such_key key i [] none = refl
no_such_key key i (g ∷ groups) none = first (bytes_eq key g.key) none (no_such_key key (i + 1) groups)
  where
    first : (b : Bool) → cond b (Some i) (position_from (has_key key) (i + 1) groups) ≡ None
        → (position_from (has_key key) (i + 1) groups ≡ None → list_any (bytes_eq key) (map (λ h. h.key) groups) ≡ false)
        → (b || list_any (bytes_eq key) (map (λ h. h.key) groups)) ≡ false
    first true none later = absurd (cc)
    first false none later = later none

-- the keys with one group more
pub keys_begun : (key : List ℕ) (groups : List Group) (g : Group) → g.key ≡ key → group_place key groups ≡ None → HasDistinctKeys groups → HasDistinctKeys (groups ++ g ∷ [])
keys_begun key groups g is none distinct =
    subst (IsDistinct bytes_eq)
    (ap (λ k. map (λ h. h.key) groups ++ k ∷ []) (sym is) ∙ sym (map-append (λ (h : Group). h.key) groups (g ∷ [])))
    (IsDistinct-push nat_list_eq_equiv (map (λ h. h.key) groups) key distinct (no_such_key key 0 groups none))

-- a set more changes no key
keys_joined : (groups : List Group) (at set : ℕ) → map (λ g. g.key) (joined_set groups at set) ≡ map (λ g. g.key) groups
keys_joined [] at set = refl
keys_joined (g ∷ groups) zero set = refl
keys_joined (g ∷ groups) (suc at) set = later (slice_get groups at) (keys_joined groups at set)
  where
    later : (o : Option Group) → map (λ h. h.key) (option_map_or (λ h. slice_set groups at (with_own_set set h)) o groups) ≡ map (λ h. h.key) groups
        → map (λ h. h.key) (option_map_or (λ h. slice_set (g ∷ groups) (suc at) (with_own_set set h)) o (g ∷ groups)) ≡ map (λ h. h.key) (g ∷ groups)
    later None is = refl
    later (Some h) is = ap (λ keys. g.key ∷ keys) is

pub distinct_joined : (groups : List Group) (at set : ℕ) → HasDistinctKeys groups → HasDistinctKeys (joined_set groups at set)
distinct_joined groups at set distinct = subst (IsDistinct bytes_eq) (sym (keys_joined groups at set)) distinct
