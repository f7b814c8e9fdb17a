-- What two stages in a chain give for one item.
use Rattle.std.specs.Prelude.{◌≡◌, List, Bool, ◌||◌}
use Rattle.stream_core.specs.Played.{Joins}

-- what the second gives for all that the first gave for the item, which is the last where either says so
abbrev pub GivesThrough : {A B C : Type 0} → (A → List B → Bool → Type 0) → (B → List C → Bool → Type 0) → A → List C → Bool → Type 0
GivesThrough {A} {B} {C} first second x zs ends = (ys : List B) × (last : Bool) × (over : Bool) × first x ys last × Joins second ys zs over × (ends ≡ over || last)
