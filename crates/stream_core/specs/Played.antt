-- What a stage comes to over a list of calls.
use Rattle.std.specs.Prelude.{◌≡◌, List, [], ◌∷◌, ◌++◌, Option, Some, None, Bool, true, false, ◌||◌, ◌⊎◌}
use Rattle.stream_core.specs.declared.signal.Signal.{Signal}
use Rattle.stream_core.specs.declared.signal.Signal.TheVariants.{Start, Push, End}
use Rattle.stream_core.specs.declared.signal.Talk.TheVariants.{Pull, Close}
use Rattle.stream_core.specs.declared.calls.Call.{Call}
use Rattle.stream_core.specs.declared.calls.Call.TheVariants as call
use Rattle.stream_core.specs.Turns.{signals}

-- the signals pushed before the first Close
abbrev pub before_close : {A : Type 0} → List (Call A) → List (Signal A)
before_close [] = []
before_close (call.Push s ∷ calls) = s ∷ before_close calls
before_close (call.Talk Pull ∷ calls) = before_close calls
before_close (call.Talk Close ∷ calls) = []

-- what stands behind the first Start
abbrev pub behind_start : {A : Type 0} → List (Signal A) → Option (List (Signal A))
behind_start [] = None
behind_start (Start ∷ rest) = Some rest
behind_start (Push x ∷ rest) = behind_start rest
behind_start (End ∷ rest) = behind_start rest

-- the items before the first End
abbrev pub before_end : {A : Type 0} → List (Signal A) → List A
before_end [] = []
before_end (Start ∷ rest) = before_end rest
before_end (Push x ∷ rest) = x ∷ before_end rest
before_end (End ∷ rest) = []

-- an End is among them
abbrev pub has_end : {A : Type 0} → List (Signal A) → Bool
has_end [] = false
has_end (Start ∷ rest) = has_end rest
has_end (Push x ∷ rest) = has_end rest
has_end (End ∷ rest) = true

-- the list function: what is given for each item, joined in order, up to an item that is the last; `ends` says whether one was
abbrev pub Joins : {A B : Type 0} → (A → List B → Bool → Type 0) → List A → List B → Bool → Type 0
Joins gives [] ys ends = (ys ≡ []) × (ends ≡ false)
Joins {A} {B} gives (x ∷ xs) ys ends = (gives x ys true × (ends ≡ true)) ⊎ ((front : List B) × (back : List B) × gives x front false × (ys ≡ front ++ back) × Joins gives xs back ends)

-- what is given for the signals behind Start: the list function of the items before End, and at most one End
abbrev pub Flows : {A B : Type 0} → (A → List B → Bool → Type 0) → List (Signal A) → List (Signal B) → Type 0
Flows {A} {B} gives rest given = (ys : List B) × (ends : Bool) × Joins gives (before_end rest) ys ends × (given ≡ signals ys (ends || has_end rest))

-- the same, with Start before it; nothing where no Start came
abbrev pub FlowsFrom : {A B : Type 0} → (A → List B → Bool → Type 0) → Option (List (Signal A)) → List (Signal B) → Type 0
FlowsFrom gives None given = given ≡ []
FlowsFrom {A} {B} gives (Some rest) given = (behind : List (Signal B)) × (given ≡ Start ∷ behind) × Flows gives rest behind

-- what a stage comes to that has heard nothing before the calls
abbrev pub Played : {A B : Type 0} → (A → List B → Bool → Type 0) → List (Call A) → List (Signal B) → Type 0
Played gives calls given = FlowsFrom gives (behind_start (before_close calls)) given

-- the same, where what was given stands behind what was there
abbrev pub PlayedOnto : {A B : Type 0} → (A → List B → Bool → Type 0) → List (Call A) → List (Signal B) → List (Signal B) → Type 0
PlayedOnto {A} {B} gives calls there then = (given : List (Signal B)) × (then ≡ there ++ given) × Played gives calls given
