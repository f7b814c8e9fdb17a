-- The fields that later ones are compared with: one of those that are alike.
use Rattle.std.specs.Prelude.{◌≡◌, ℕ, ◌+◌, Bool, true, false, ◌||◌, List, [], Option, None, Some, slice_get, take}
use Rattle.std.specs.Ordering.{nat_cmp}
use Rattle.std.specs.List.{list_any}
use Rattle.std.specs.Option.{option_map_or}
use Rattle.std.specs.BTreeMap.{BTreeMap, get}
use Rattle.std.specs.Global.{Vec}
use Rattle.schema_model.specs.declared.schema.Schema.{Schema}
use Rattle.check_model.specs.Fields.{Placed, PlacedFields}
use Rattle.check_model.specs.SameValues.{same_arguments}
use Rattle.check_model.specs.MergeRules.{conflict, some_conflict}

-- places by the numbers of their paths
abbrev pub Kept : Type 0
Kept = BTreeMap ℕ (Vec ℕ)

-- the places under a number
abbrev pub kept_at : Kept → ℕ → List ℕ
kept_at kept number = option_map_or (λ places. places.items) (get nat_cmp kept number) []

-- two fields can't be merged, whichever is named first
abbrev pub at_odds : Schema → Placed → Placed → Bool
at_odds schema x y = conflict schema x y || conflict schema y x

-- so for a field and the one at a place
abbrev pub at_odds_with : Schema → PlacedFields → Placed → ℕ → Bool
at_odds_with schema fields x place = option_map_or (at_odds schema x) (slice_get fields place) false

-- one place, one name and the same arguments
pub record IsAlike (x y : Placed) : Type 0 where
  pub path : x.path ≡ y.path
  pub parents : x.parents ≡ y.parents
  pub name : x.name ≡ y.name
  pub type : x.type ≡ y.type
  pub there : same_arguments x.arguments y.arguments ≡ true
  pub back : same_arguments y.arguments x.arguments ≡ true

-- what can't be merged with a field can't be merged with one at these places
abbrev pub IsCovered : Schema → PlacedFields → List ℕ → Placed → Type 0
IsCovered schema fields places x = (z : Placed) → at_odds schema z x ≡ true → list_any (at_odds_with schema fields z) places ≡ true

-- The first fields can all be merged, and what can't be merged with one of them can't be merged with one that was kept
-- under the number of its path.
pub record Represents (schema : Schema) (fields : PlacedFields) (numbers : List ℕ) (kept : Kept) (count : ℕ) : Type 0 where
  pub none : some_conflict schema (take count fields) ≡ false
  pub same : (i n : ℕ) (x : Placed) → slice_get fields i ≡ Some x → slice_get numbers i ≡ Some n
      → list_any (at_odds schema x) (take count fields) ≡ list_any (at_odds_with schema fields x) (kept_at kept n)

-- one field more was taken in, or there is a conflict
abbrev pub TakenIn : Schema → PlacedFields → List ℕ → ℕ → Option Kept → Type 0
TakenIn schema fields numbers place (Some kept) = Represents schema fields numbers kept (place + 1)
TakenIn schema fields numbers place None = some_conflict schema fields ≡ true
