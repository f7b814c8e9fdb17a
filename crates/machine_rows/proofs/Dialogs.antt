-- Dialogs command by command: what each command does, by what it reads or is told, and then the rest.
use Rattle.std.proofs.Common.{◌≡◌, ℕ, ◌+◌, ◌==◌, false, List, [], ◌∷◌, find, refl, sym, ap, subst, ◌∙◌, Result}
use Rattle.std.proofs.lemmas.List.{append-nil}
use Rattle.std.specs.declared.result.Result.TheVariants.{Ok, Err}
use Rattle.gql_value.specs.declared.value.Value.{Value}
use Rattle.gql_value.specs.declared.outcome.Fault.{Fault}
use Rattle.gql_value.specs.declared.outcome.Outcome.TheVariants.{Body, Bad}
use Rattle.cache_model.specs.declared.write.Write.{Write}
use Rattle.cache_model.specs.History.{flattened}
use Rattle.queue_model.specs.Queue.{MutationQueue}
use Rattle.machine_model.specs.declared.command.Command.{Command}
use Rattle.machine_model.specs.declared.command.Command.TheOpen.{Command-F, Dispatch-F}
use Rattle.machine_model.specs.declared.command.Command.TheViews.{roll-Command, roll-Dispatch, out-roll-Command}
use Rattle.machine_model.specs.declared.command.Dispatch.{Dispatch}
use Rattle.machine_model.specs.declared.output.Out.{Out}
use Rattle.machine_model.specs.Operations.{Reading}
use Rattle.machine_model.specs.State.{GatewayState}
use Rattle.machine_model.specs.FollowUps.{plain_job}
use Rattle.machine_model.specs.Steps.{Step, Change}
use Rattle.machine_model.specs.Queries.{unread}
use Rattle.machine_model.specs.declared.output.Refusal.{Refusal}
use Rattle.machine_model.specs.Sequels.{concluded}
use Rattle.machine_model.specs.Telling.{no_errors}
use Rattle.machine_model.specs.Responses.{response}
use Rattle.machine_model.specs.Commands.{dispatched, step_of, command_step}
use Rattle.machine_model.specs.Runs.{commands_taken, with_command}
use Rattle.machine_rows.specs.Operations.{Operation}
use Rattle.machine_rows.specs.Meanings.{Rules, meaning}
use Rattle.machine_rows.specs.Dialogs.{Exchange, Follow, client}
use Rattle.machine_rows.proofs.Readings.{Root, Leads, now_by, read_is}
use Rattle.machine_rows.proofs.Views.{View, Fits, concluded_by, concluded_is}
use Rattle.machine_rows.proofs.Told.{telling, FetchTells, response_is, reading, Reads, dispatched_is}

-- the rest of a dialog
pub record Rest (rules : Rules) (line : ℕ) (exchanges : List Exchange) (queue : MutationQueue) (state : GatewayState Operation) : Type 0 where
  pub follows : Follow rules line exchanges queue state

-- a step gives out this, and the rest follows
pub record After (rules : Rules) (line : ℕ) (outs : List Out) (exchanges : List Exchange) (queue : MutationQueue) (step : Step Operation) : Type 0 where
  pub told : step.outs ≡ outs
  pub quiet : step.state.jobs ≡ []
  pub rest : Rest rules line exchanges queue step.state

pub ends : {rules : Rules} {line : ℕ} {queue : MutationQueue} {state : GatewayState Operation} → state.rows ≡ queue → Rest rules line [] queue state
ends left = record { follows = left }

abbrev pub idle : GatewayState Operation → GatewayState Operation
idle state = record state { jobs = [] }

pub begins : {rules : Rules} {line : ℕ} {exchange : Exchange} {exchanges : List Exchange} {queue : MutationQueue} {state : GatewayState Operation}
    → After rules (line + 1) exchange.outs exchanges queue (command_step (meaning rules) (plain_job (exchange.command line)) (idle state))
    → Rest rules line (exchange ∷ exchanges) queue state
begins {rules} {line} {exchange} {exchanges} {queue} {state} after = record {
  follows = (
    commands_taken 1 (meaning rules) (with_command (exchange.command line) state),
    record { commands = 1; done = refl; drained = after.quiet },
    append-nil _ ∙ after.told,
    after.rest.follows,
  );
}

-- the same for a command that is followed by others
pub begins_many : {rules : Rules} {line : ℕ} {exchange : Exchange} {exchanges : List Exchange} {queue : MutationQueue} {state : GatewayState Operation} (commands : ℕ)
    → After rules (line + 1) exchange.outs exchanges queue (commands_taken commands (meaning rules) (with_command (exchange.command line) state))
    → Rest rules line (exchange ∷ exchanges) queue state
begins_many {rules} {line} {exchange} {exchanges} {queue} {state} commands after = record {
  follows = (
    commands_taken commands (meaning rules) (with_command (exchange.command line) state),
    record { commands = commands; done = refl; drained = after.quiet },
    after.told,
    after.rest.follows,
  );
}

-- the step of a command by its parts
pub is_command : {rules : Rules} {line : ℕ} {exchange : Exchange} {exchanges : List Exchange} {queue : MutationQueue} {state : GatewayState Operation} (parts : Command-F Command Dispatch)
    → exchange.command line ≡ roll-Command parts
    → After rules (line + 1) exchange.outs exchanges queue (step_of (meaning rules) false (idle state) parts)
    → Rest rules line (exchange ∷ exchanges) queue state
is_command {rules} {line} {exchange} {exchanges} {queue} {state} parts is after =
    let opened : command_step (meaning rules) (plain_job (exchange.command line)) (idle state) ≡ step_of (meaning rules) false (idle state) parts
    = ap (λ command. command_step (meaning rules) (plain_job command) (idle state)) is ∙ ap (step_of (meaning rules) false (idle state)) (out-roll-Command parts) in
    begins (subst (After rules (line + 1) exchange.outs exchanges queue) (sym opened) after)

-- a dispatch
pub asks : {rules : Rules} {line : ℕ} {exchange : Exchange} {exchanges : List Exchange} {queue : MutationQueue} {state : GatewayState Operation} (view : View) (parts : Dispatch-F Command Dispatch)
    → exchange.command line ≡ roll-Command (Command-F.Dispatch (roll-Dispatch parts))
    → Fits rules view (dispatched (meaning rules) (roll-Dispatch parts) parts (idle state)).sequel (dispatched (meaning rules) (roll-Dispatch parts) parts (idle state)).state
    → After rules (line + 1) exchange.outs exchanges queue (concluded_by rules view (dispatched (meaning rules) (roll-Dispatch parts) parts (idle state)))
    → Rest rules line (exchange ∷ exchanges) queue state
asks {rules} {line} {exchange} {exchanges} {queue} {state} view parts is fits after =
    is_command (Command-F.Dispatch (roll-Dispatch parts)) is
    (subst (After rules (line + 1) exchange.outs exchanges queue) (sym (concluded_is rules view (dispatched (meaning rules) (roll-Dispatch parts) parts (idle state)) fits)) after)

-- what the judged operation reads
abbrev pub now_of : Root → GatewayState Operation → Result Operation Refusal → Reading
now_of root s (Ok operation) = now_by root operation (flattened s.history)
now_of root s (Err refusal) = unread

abbrev pub LeadsFor : Root → GatewayState Operation → Result Operation Refusal → Type 0
LeadsFor root s (Ok operation) = Leads root operation (flattened s.history)
LeadsFor root s (Err refusal) = Unit {0}

reads : (rules : Rules) (root : Root) (s : GatewayState Operation) (judged : Result Operation Refusal) → LeadsFor root s judged → Reads (meaning rules) (now_of root s judged) s judged
reads rules root s (Ok operation) e = read_is root operation (flattened s.history) e
reads rules root s (Err refusal) e = tt

-- the change by a dispatch of a query whose root field leads there
abbrev pub asked_at : Rules → Root → Dispatch-F Command Dispatch → GatewayState Operation → Change Operation
asked_at rules root parts s =
    dispatched (reading (meaning rules) (now_of root s ((meaning rules).judged (roll-Dispatch parts)))) (roll-Dispatch parts) parts s

pub asks_at : {rules : Rules} {line : ℕ} {exchange : Exchange} {exchanges : List Exchange} {queue : MutationQueue} {state : GatewayState Operation} (root : Root) (view : View) (parts : Dispatch-F Command Dispatch)
    → exchange.command line ≡ roll-Command (Command-F.Dispatch (roll-Dispatch parts))
    → LeadsFor root (idle state) ((meaning rules).judged (roll-Dispatch parts))
    → Fits rules view (asked_at rules root parts (idle state)).sequel (asked_at rules root parts (idle state)).state
    → After rules (line + 1) exchange.outs exchanges queue (concluded_by rules view (asked_at rules root parts (idle state)))
    → Rest rules line (exchange ∷ exchanges) queue state
asks_at {rules} {line} {exchange} {exchanges} {queue} {state} root view parts is leads fits after =
    let m = meaning rules in
    let judged = m.judged (roll-Dispatch parts) in
    is_command (Command-F.Dispatch (roll-Dispatch parts)) is
    (subst (After rules (line + 1) exchange.outs exchanges queue)
    (sym
    (ap (concluded m) (dispatched_is m (now_of root (idle state) judged) (roll-Dispatch parts) parts (idle state) (reads rules root (idle state) judged leads))
    ∙ concluded_is rules view (asked_at rules root parts (idle state)) fits))
    after)

-- an answer, which writes this and of which a mutation is told this
pub answers : {rules : Rules} {line : ℕ} {exchange : Exchange} {exchanges : List Exchange} {queue : MutationQueue} {state : GatewayState Operation} (view : View) (number : ℕ) (answer : Value)
    (writes : List Write) (projection : Value)
    → exchange.command line ≡ roll-Command (Command-F.Respond client number line (Body answer no_errors))
    → FetchTells (meaning rules) (Ok writes) projection answer no_errors (idle state) (find (λ fetch. fetch.number == number) (idle state).fetches)
    → Fits rules view
    (response (telling (meaning rules) (Ok writes) projection) client number line (Body answer no_errors) (idle state)).sequel
    (response (telling (meaning rules) (Ok writes) projection) client number line (Body answer no_errors) (idle state)).state
    → After rules (line + 1) exchange.outs exchanges queue
    (concluded_by rules view (response (telling (meaning rules) (Ok writes) projection) client number line (Body answer no_errors) (idle state)))
    → Rest rules line (exchange ∷ exchanges) queue state
answers {rules} {line} {exchange} {exchanges} {queue} {state} view number answer writes projection is tells fits after =
    let m = meaning rules in
    let change = response (telling m (Ok writes) projection) client number line (Body answer no_errors) (idle state) in
    is_command (Command-F.Respond client number line (Body answer no_errors)) is
    (subst (After rules (line + 1) exchange.outs exchanges queue)
    (sym (ap (concluded m) (response_is m (Ok writes) projection answer no_errors client number line (idle state) tells) ∙ concluded_is rules view change fits))
    after)

-- a fault in the place of an answer
pub fails : {rules : Rules} {line : ℕ} {exchange : Exchange} {exchanges : List Exchange} {queue : MutationQueue} {state : GatewayState Operation} (view : View) (number : ℕ) (fault : Fault)
    → exchange.command line ≡ roll-Command (Command-F.Respond client number line (Bad fault))
    → Fits rules view (response (meaning rules) client number line (Bad fault) (idle state)).sequel (response (meaning rules) client number line (Bad fault) (idle state)).state
    → After rules (line + 1) exchange.outs exchanges queue (concluded_by rules view (response (meaning rules) client number line (Bad fault) (idle state)))
    → Rest rules line (exchange ∷ exchanges) queue state
fails {rules} {line} {exchange} {exchanges} {queue} {state} view number fault is fits after =
    is_command (Command-F.Respond client number line (Bad fault)) is
    (subst (After rules (line + 1) exchange.outs exchanges queue)
    (sym (concluded_is rules view (response (meaning rules) client number line (Bad fault) (idle state)) fits))
    after)

pub gave : {rules : Rules} {line : ℕ} {outs : List Out} {exchanges : List Exchange} {queue : MutationQueue} {step : Step Operation}
    → step.outs ≡ outs → step.state.jobs ≡ [] → Rest rules line exchanges queue step.state → After rules line outs exchanges queue step
gave told quiet rest = record { told = told; quiet = quiet; rest = rest }
