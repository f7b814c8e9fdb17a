-- What one signal makes of a stage, by what the stage gives for one item.
use Rattle.std.specs.Prelude.{◌≡◌, List, [], ◌∷◌, ◌++◌, map, Bool, cond}
use Rattle.stream_core.specs.declared.phase.Phase.{Phase}
use Rattle.stream_core.specs.declared.phase.Phase.TheVariants.{Waiting, Flowing, Over}
use Rattle.stream_core.specs.declared.signal.Signal.{Signal}
use Rattle.stream_core.specs.declared.signal.Signal.TheVariants.{Start, Push, End}

-- the items, each as a signal, and End behind them where they are the last
abbrev pub signals : {A : Type 0} → List A → Bool → List (Signal A)
signals xs ends = map Push xs ++ cond ends (End ∷ []) []

-- what a signal makes of a stage that gives `gives x ys ends` for the item x: it stands at the phase `after`, and gave the signals `given`
abbrev pub Turn : {A B : Type 0} → (A → List B → Bool → Type 0) → Phase → Signal A → Phase → List (Signal B) → Type 0
Turn gives Waiting Start after given = (after ≡ Flowing) × (given ≡ Start ∷ [])
Turn gives Waiting (Push x) after given = (after ≡ Waiting) × (given ≡ [])
Turn gives Waiting End after given = (after ≡ Waiting) × (given ≡ [])
Turn gives Flowing Start after given = (after ≡ Flowing) × (given ≡ [])
Turn {A} {B} gives Flowing (Push x) after given = (ys : List B) × (ends : Bool) × gives x ys ends × (after ≡ cond ends Over Flowing) × (given ≡ signals ys ends)
Turn gives Flowing End after given = (after ≡ Over) × (given ≡ End ∷ [])
Turn gives Over s after given = (after ≡ Over) × (given ≡ [])

-- the turn, where what was given stands behind what was there
abbrev pub TurnOnto : {A B : Type 0} → (A → List B → Bool → Type 0) → Phase → Signal A → Phase → List (Signal B) → List (Signal B) → Type 0
TurnOnto {A} {B} gives before s after there then = (given : List (Signal B)) × (then ≡ there ++ given) × Turn gives before s after given

-- whatever the second gives the first gives too
abbrev pub Within : {A B : Type 0} → (A → List B → Bool → Type 0) → (A → List B → Bool → Type 0) → Type 0
Within {A} {B} gives later = (x : A) (ys : List B) (ends : Bool) → later x ys ends → gives x ys ends
