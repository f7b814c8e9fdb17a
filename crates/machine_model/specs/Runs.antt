-- The run of an outside command with all that follows it.
use Rattle.std.specs.Prelude.{◌≡◌, ℕ, zero, suc, ◌^◌, ◌&&◌, Bool, nat_lt, nat_le, List, [], ◌∷◌, ◌++◌, length}
use Rattle.machine_model.specs.declared.command.Command.{Command}
use Rattle.machine_model.specs.Operations.{Meaning}
use Rattle.machine_model.specs.State.{GatewayState, Job}
use Rattle.machine_model.specs.FollowUps.{plain_job}
use Rattle.machine_model.specs.Steps.{Step, unmoved, and_then}
use Rattle.machine_model.specs.Commands.{command_step}

-- the first of these commands leaves the queue and makes its step; where none waits nothing is done
abbrev pub first_taken : {O : Type 0} → Meaning O → GatewayState O → List Job → Step O
first_taken meaning state [] = unmoved state
first_taken meaning state (job ∷ jobs) = command_step meaning job (record state { jobs = jobs })

-- the first command of the queue is taken, where there is one
abbrev pub command_taken : {O : Type 0} → Meaning O → GatewayState O → Step O
command_taken meaning state = first_taken meaning state state.jobs

-- so many commands are taken, or as many as there are
abbrev pub commands_taken : {O : Type 0} → ℕ → Meaning O → GatewayState O → Step O
commands_taken zero meaning state = unmoved state
commands_taken (suc n) meaning state = and_then (command_taken meaning state) (commands_taken n meaning)

-- an outside command is put into the empty queue
abbrev pub with_command : {O : Type 0} → Command → GatewayState O → GatewayState O
with_command command state = record state { jobs = plain_job command ∷ [] }

-- the run of a command: commands are taken until the queue is empty
pub record IsRun {O : Type 0} (meaning : Meaning O) (command : Command) (state : GatewayState O) (step : Step O) : Type 0 where
  pub commands : ℕ
  pub done : step ≡ commands_taken commands meaning (with_command command state)
  pub drained : step.state.jobs ≡ []

-- one outside command after another, each with its run
abbrev pub AreRuns : {O : Type 0} → Meaning O → List Command → GatewayState O → Step O → Type 0
AreRuns meaning [] state step = step ≡ unmoved state
AreRuns {O} meaning (command ∷ commands) state step =
    (first : Step O) × (rest : Step O) × IsRun meaning command state first × AreRuns meaning commands first.state rest
    × (step ≡ record { outs = first.outs ++ rest.outs; state = rest.state })

-- No number was drawn past its last: tickets and fetches are numbered from 1 and rows too, each below 2^63, and at most 2^32 - 1 identities are met.
-- The numbers only grow, so a run that would leave them otherwise is stopped exactly where it would draw the first one too many.
abbrev pub has_numbers : {O : Type 0} → GatewayState O → Bool
has_numbers state =
    nat_lt (length state.history) (2 ^ 63) && nat_le state.next_fetch (2 ^ 63)
    && nat_lt state.rows.greatest (2 ^ 63) && nat_lt (length state.identities) (2 ^ 32)
