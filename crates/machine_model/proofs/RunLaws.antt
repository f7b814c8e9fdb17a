-- A command has one run, and what each command keeps a run keeps.
use Rattle.std.proofs.Common.{◌≡◌, ℕ, zero, suc, ◌+◌, List, [], ◌∷◌, ◌++◌, refl, sym, ap, ◌∙◌, subst, arith, add_comm}
use Rattle.machine_model.specs.declared.command.Command.{Command}
use Rattle.machine_model.specs.Operations.{Meaning}
use Rattle.machine_model.specs.State.{GatewayState, Job}
use Rattle.machine_model.specs.Steps.{Step, unmoved, and_then}
use Rattle.machine_model.specs.Commands.{command_step}
use Rattle.machine_model.specs.Runs.{first_taken, command_taken, commands_taken, with_command, IsRun}

-- what a step and a further one come to
abbrev after_step : {O : Type 0} → Step O → Step O → Step O
after_step step next = record { outs = step.outs ++ next.outs; state = next.state }

idle : {O : Type 0} (m : Meaning O) (s : GatewayState O) → s.jobs ≡ [] → command_taken m s ≡ unmoved s
idle m s e = subst (λ jobs. first_taken m s jobs ≡ unmoved s) (sym e) refl

stays : {O : Type 0} (k : ℕ) (m : Meaning O) (s : GatewayState O) → s.jobs ≡ [] → commands_taken k m s ≡ unmoved s
stays zero m s e = refl
stays {O} (suc k) m s e = ap (λ (step : Step O). and_then step (commands_taken k m)) (idle m s e) ∙ stays k m s e

more : {O : Type 0} (n k : ℕ) (m : Meaning O) (s : GatewayState O) → (commands_taken n m s).state.jobs ≡ [] → commands_taken (k + n) m s ≡ commands_taken n m s
more zero k m s e =
    let none : k + zero ≡ k = omega arith in
    ap (λ n. commands_taken n m s) none ∙ stays k m s e
more (suc n) k m s e =
    let one : k + suc n ≡ suc (k + n) = omega arith in
    ap (λ n. commands_taken n m s) one ∙ ap (after_step (command_taken m s)) (more n k m (command_taken m s).state e)

pub one_run : {O : Type 0} (m : Meaning O) (c : Command) (s : GatewayState O) (step other : Step O) → IsRun m c s step → IsRun m c s other → step ≡ other
one_run {O} m c s step other a b =
    let start = with_command c s in
    let first : (commands_taken a.commands m start).state.jobs ≡ [] = subst (λ (r : Step O). r.state.jobs ≡ []) a.done a.drained in
    let second : (commands_taken b.commands m start).state.jobs ≡ [] = subst (λ (r : Step O). r.state.jobs ≡ []) b.done b.drained in
    a.done
    ∙ sym (more a.commands b.commands m start first)
    ∙ ap (λ n. commands_taken n m start) (add_comm b.commands a.commands)
    ∙ more b.commands a.commands m start second
    ∙ sym b.done

kept_by_first : {O : Type 0} (P : GatewayState O → Type 0) (m : Meaning O) → ((job : Job) (s : GatewayState O) (jobs : List Job) → P s → P (command_step m job (record s { jobs = jobs })).state)
    → (s : GatewayState O) (jobs : List Job) → P s → P (first_taken m s jobs).state
kept_by_first P m k s [] a = a
kept_by_first P m k s (job ∷ jobs) a = k job s jobs a

-- what each command keeps, whatever waits behind it, a run keeps
pub kept_by_runs : {O : Type 0} (P : GatewayState O → Type 0) (m : Meaning O) → ((job : Job) (s : GatewayState O) (jobs : List Job) → P s → P (command_step m job (record s { jobs = jobs })).state)
    → (n : ℕ) (s : GatewayState O) → P s → P (commands_taken n m s).state
kept_by_runs P m k zero s a = a
kept_by_runs P m k (suc n) s a = kept_by_runs P m k n (command_taken m s).state (kept_by_first P m k s s.jobs a)
