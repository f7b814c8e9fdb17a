-- Numbers of paths, by which the fields of one path are found.
use Rattle.std.specs.Prelude.{◌≡◌, ℕ, true, List, [], ◌∷◌, Option, Some, slice_get}
use Rattle.std.specs.declared.cmp.Ordering.{Ordering}
use Rattle.std.specs.Ordering.{nat_cmp, ordering_then}
use Rattle.std.specs.Option.{option_and_then, option_map_or, unwrap_or}
use Rattle.std.specs.Borrow.{Bor}
use Rattle.std.specs.BTreeMap.{BTreeMap, get}
use Rattle.text_types.specs.Texts.{text_cmp}
use Rattle.check_model.specs.Fields.{Placed, PlacedFields}
use Rattle.check_model.specs.MergeRules.{same_path}

-- a number and a key below it
abbrev pub Step : Type 0
Step = ℕ × Bor (List ℕ)

-- in the order of the numbers, then of the keys
abbrev pub step_cmp : Step → Step → Ordering
step_cmp x y = ordering_then (nat_cmp x.0 y.0) (text_cmp x.1.now y.1.now)

-- the numbers that are known, by the number above and the key
abbrev pub Known : Type 0
Known = BTreeMap Step ℕ

-- the number of a path one key below another
abbrev pub number_below : Known → ℕ → List ℕ → Option ℕ
number_below known above key = get step_cmp known (above, record { ref_ptr = (0, 0); now = key })

-- the number of what is a path below a number
abbrev pub number_from : Known → List (List ℕ) → Option ℕ → Option ℕ
number_from known [] above = above
number_from known (key ∷ path) above = number_from known path (option_and_then (λ n. number_below known n key) above)

-- the number of a path; that of the empty path is 0
abbrev pub number_of : Known → List (List ℕ) → Option ℕ
number_of known path = number_from known path (Some 0)

-- the number at a place, or that of the empty path
abbrev pub number_at : List ℕ → Option ℕ → ℕ
number_at numbers place = option_map_or (λ i. unwrap_or (slice_get numbers i) 0) place 0

-- what was known stays so
abbrev pub Extends : Known → Known → Type 0
Extends before after = (above number : ℕ) (key : List ℕ) → number_below before above key ≡ Some number → number_below after above key ≡ Some number

-- the numbers are those of the first fields' paths
abbrev pub AreTold : PlacedFields → Known → List ℕ → Type 0
AreTold fields known numbers = (i n : ℕ) (x : Placed) → slice_get fields i ≡ Some x → slice_get numbers i ≡ Some n → number_of known x.path ≡ Some n

-- fields of one path have one number
abbrev pub AreNumbered : PlacedFields → List ℕ → Type 0
AreNumbered fields numbers =
    (i j m n : ℕ) (x y : Placed) → slice_get fields i ≡ Some x → slice_get fields j ≡ Some y → slice_get numbers i ≡ Some m → slice_get numbers j ≡ Some n
    → same_path x.path y.path ≡ true → m ≡ n
