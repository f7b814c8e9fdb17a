-- Every run ends.
use Rattle.std.specs.Prelude.{ℕ, ◌+◌, ◌<◌, ◌≤◌, List, [], ◌∷◌}
use Rattle.machine_model.specs.declared.command.Command.{Command, out-Command}
use Rattle.machine_model.specs.declared.command.Command.TheOpen.{Command-F, Dispatch-F}
use Rattle.machine_model.specs.declared.command.Command.TheFolds.{fold-Command}
use Rattle.machine_model.specs.declared.command.Dispatch.{Dispatch, out-Dispatch}
use Rattle.machine_model.specs.Operations.{Meaning}
use Rattle.machine_model.specs.State.{GatewayState}
use Rattle.machine_model.specs.Steps.{Step}
use Rattle.machine_model.specs.Runs.{IsRun}

-- how much some commands weigh together
abbrev pub weigh_all : (Command → ℕ) → List Command → ℕ
weigh_all weight [] = 0
weigh_all weight (command ∷ commands) = weight command + weigh_all weight commands

-- a dispatch weighs more than all that was given to follow it, and any other command weighs something
abbrev pub WeighsMore : (Command → ℕ) → ℕ → Command-F Command Dispatch → Type 0
WeighsMore weight own (Command-F.Dispatch dispatch) = weigh_all weight (out-Dispatch dispatch).then < own
WeighsMore weight own (Command-F.Teardown peer id line) = 0 < own
WeighsMore weight own (Command-F.Respond peer fetch line outcome) = 0 < own
WeighsMore weight own Command-F.Online = 0 < own
WeighsMore weight own (Command-F.Layers peer) = 0 < own
WeighsMore weight own (Command-F.Flat peer) = 0 < own
WeighsMore weight own (Command-F.Gone peer) = 0 < own

-- commands are weighed so
abbrev pub IsWeight : (Command → ℕ) → Type 0
IsWeight weight = (command : Command) → WeighsMore weight (weight command) (out-Command command)

-- the sum of some weights
abbrev pub weights_total : List ℕ → ℕ
weights_total [] = 0
weights_total (weight ∷ weights) = weight + weights_total weights

-- the weight of a command: 1, and of a dispatch the weights of what follows it as well
abbrev pub weigh_command : Command-F ℕ ℕ → ℕ
weigh_command (Command-F.Dispatch inside) = inside + 1
weigh_command (Command-F.Teardown peer id line) = 1
weigh_command (Command-F.Respond peer fetch line outcome) = 1
weigh_command Command-F.Online = 1
weigh_command (Command-F.Layers peer) = 1
weigh_command (Command-F.Flat peer) = 1
weigh_command (Command-F.Gone peer) = 1

-- how much the commands weigh together that were given to follow a dispatch
abbrev pub weigh_dispatch : Dispatch-F ℕ ℕ → ℕ
weigh_dispatch dispatch = weights_total dispatch.then

-- the weight of a command: how many commands it holds, itself and what follows it, at every depth
abbrev pub weight_of : Command → ℕ
weight_of = fold-Command ℕ ℕ weigh_command weigh_dispatch

-- what a listener asks for weighs no more than what the operation was given to follow; the program's listener gives just that back
abbrev pub AsksNoMore : {O : Type 0} → (Command → ℕ) → Meaning O → Type 0
AsksNoMore weight meaning = (peer id : ℕ) (commands : List Command) → weigh_all weight (meaning.listener peer id commands) ≤ weigh_all weight commands

-- each command has a run where listeners ask for no more than was given
abbrev pub EveryRunEnds : Type 0 → Type 0
EveryRunEnds O = (meaning : Meaning O) (command : Command) (state : GatewayState O) → AsksNoMore weight_of meaning → (step : Step O) × IsRun meaning command state step
