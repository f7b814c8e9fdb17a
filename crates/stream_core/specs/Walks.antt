-- The turns of a list of calls, one after the other.
use Rattle.std.specs.Prelude.{◌≡◌, List, [], ◌∷◌, ◌++◌, map, Bool}
use Rattle.stream_core.specs.declared.phase.Phase.{Phase}
use Rattle.stream_core.specs.declared.signal.Signal.{Signal}
use Rattle.stream_core.specs.declared.calls.Call.{Call}
use Rattle.stream_core.specs.declared.calls.Call.TheVariants as call
use Rattle.stream_core.specs.Phases.{talked_to}
use Rattle.stream_core.specs.Turns.{Turn}

-- the turns of the calls, one after the other, lead from one phase to the other and give these signals
abbrev pub Walk : {A B : Type 0} → (A → List B → Bool → Type 0) → Phase → List (Call A) → List (Signal B) → Phase → Type 0
Walk gives p [] given q = (given ≡ []) × (p ≡ q)
Walk {A} {B} gives p (call.Push s ∷ calls) given q = (mid : Phase) × (more : List (Signal B)) × (rest : List (Signal B)) × Turn gives p s mid more × (given ≡ more ++ rest) × Walk gives mid calls rest q
Walk gives p (call.Talk t ∷ calls) given q = Walk gives (talked_to p t) calls given q

-- the signals, each pushed
abbrev pub pushes : {A : Type 0} → List (Signal A) → List (Call A)
pushes signals = map call.Push signals

-- the turns of these signals, where what was given stands behind what was there
abbrev pub PushedOnto : {A B : Type 0} → (A → List B → Bool → Type 0) → Phase → List (Signal A) → Phase → List (Signal B) → List (Signal B) → Type 0
PushedOnto {A} {B} gives p signals q there then = (given : List (Signal B)) × (then ≡ there ++ given) × Walk gives p (pushes signals) given q
