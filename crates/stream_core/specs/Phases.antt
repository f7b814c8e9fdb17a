-- When a signal has its turn at a stage, and what a talk makes of it.
use Rattle.std.specs.Prelude.{◌≡◌, Option, Some, None}
use Rattle.stream_core.specs.declared.phase.Phase.{Phase}
use Rattle.stream_core.specs.declared.phase.Phase.TheVariants.{Waiting, Flowing, Over}
use Rattle.stream_core.specs.declared.signal.Signal.{Signal}
use Rattle.stream_core.specs.declared.signal.Signal.TheVariants.{Start, Push, End}
use Rattle.stream_core.specs.declared.signal.Talk.{Talk}
use Rattle.stream_core.specs.declared.signal.Talk.TheVariants.{Pull, Close}

-- the signal, where it has its turn: Start comes first and once, items and End come behind it, and nothing comes behind End or Close
abbrev pub passed : {A : Type 0} → Phase → Signal A → Option (Signal A)
passed Waiting Start = Some Start
passed Waiting (Push x) = None
passed Waiting End = None
passed Flowing Start = None
passed Flowing (Push x) = Some (Push x)
passed Flowing End = Some End
passed Over s = None

-- the phase behind a signal
abbrev pub passes_to : {A : Type 0} → Phase → Signal A → Phase
passes_to Waiting Start = Flowing
passes_to Waiting (Push x) = Waiting
passes_to Waiting End = Waiting
passes_to Flowing Start = Flowing
passes_to Flowing (Push x) = Flowing
passes_to Flowing End = Over
passes_to Over s = Over

-- what goes up from a stage: Close for Close, and for Pull too once it is over
abbrev pub upward : Phase → Talk → Talk
upward p Close = Close
upward Waiting Pull = Pull
upward Flowing Pull = Pull
upward Over Pull = Close

-- the phase behind a talk: a closed stage is over
abbrev pub talked_to : Phase → Talk → Phase
talked_to p Pull = p
talked_to p Close = Over

-- the first of two stages in a chain stands where the second does, unless the second is over
abbrev pub Aligned : Phase → Phase → Type 0
Aligned p Over = Unit {0}
Aligned p Waiting = p ≡ Waiting
Aligned p Flowing = p ≡ Flowing
