-- What each command keeps a run keeps.
use Rattle.std.proofs.Common.{ℕ, zero, suc, List, [], ◌∷◌}
use Rattle.machine_model.specs.Operations.{Meaning}
use Rattle.machine_model.specs.State.{GatewayState, Job}
use Rattle.machine_model.specs.Commands.{command_step}
use Rattle.machine_model.specs.Runs.{first_taken, command_taken, commands_taken}

kept_by_first : {O : Type 0} (P : GatewayState O → Type 0) (m : Meaning O) → ((job : Job) (s : GatewayState O) (jobs : List Job) → P s → P (command_step m job (record s { jobs = jobs })).state)
    → (s : GatewayState O) (jobs : List Job) → P s → P (first_taken m s jobs).state
kept_by_first P m k s [] a = a
kept_by_first P m k s (job ∷ jobs) a = k job s jobs a

-- what each command keeps, whatever waits behind it, a run keeps
pub kept_by_runs : {O : Type 0} (P : GatewayState O → Type 0) (m : Meaning O) → ((job : Job) (s : GatewayState O) (jobs : List Job) → P s → P (command_step m job (record s { jobs = jobs })).state)
    → (n : ℕ) (s : GatewayState O) → P s → P (commands_taken n m s).state
kept_by_runs P m k zero s a = a
kept_by_runs P m k (suc n) s a = kept_by_runs P m k n (command_taken m s).state (kept_by_first P m k s s.jobs a)
