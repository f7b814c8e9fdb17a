-- What was sent under each ticket and what came of it: the cache is the map of these alone, whatever the order in which they came.
use Rattle.std.specs.Prelude.{◌≡◌, ◌⊎◌, ℕ, zero, suc, ◌-◌, Bool, true, false, List, [], ◌∷◌, ◌++◌, map, slice_get, is_none, Option, Some, None, Result}
use Rattle.std.specs.List.{AllByRecursion}
use Rattle.std.specs.Option.{option_map_or}
use Rattle.std.specs.declared.result.Result.TheVariants.{Ok, Err}
use Rattle.gql_value.specs.declared.value.Value.{Value}
use Rattle.gql_value.specs.declared.outcome.Outcome.TheVariants as outcome
use Rattle.cache_model.specs.declared.write.Write.{Write}
use Rattle.cache_model.specs.declared.kind.Kind.TheVariants.{Optimistic, Final}
use Rattle.cache_model.specs.History.{History, Content, no_content, flattened}
use Rattle.queue_model.specs.Queue.{MutationQueue}
use Rattle.machine_model.specs.declared.command.Command.{Command, out-Command}
use Rattle.machine_model.specs.declared.command.Command.TheOpen.{Command-F}
use Rattle.machine_model.specs.declared.command.Dispatch.{Dispatch}
use Rattle.machine_model.specs.Operations.{Meaning}
use Rattle.machine_model.specs.State.{GatewayState, OpenFetch, PendingMutation, Job, first_state}
use Rattle.machine_model.specs.Steps.{Step}
use Rattle.machine_model.specs.Rows.{Offered, all_offered}
use Rattle.machine_model.specs.Commands.{command_step}
use Rattle.machine_model.specs.Runs.{command_taken, with_command, IsRun, AreRuns}
use Rattle.machine_laws.specs.Closings.{IsApart, IsOpen, given_up}

-- what came of a ticket: nothing so far, an answer with its errors, or no answer, where a fault, a teardown or a full queue ended it
pub data Came : Type 0 where
  nothing : Came
  answered : Value → Value → Came
  no_answer : Came

-- what was first sent under a ticket, whether that is a mutation, and what came of it
pub record SentOperation (O : Type 0) : Type 0 where
  pub operation : O
  pub mutates : Bool
  pub came : Came

-- ---- what a ticket holds

-- nothing, or the guess of a mutation
abbrev pub held_before : Option (List Write) → Content
held_before None = no_content
held_before (Some writes) = record { kind = Optimistic; finished = false; writes = writes }

-- these writes for good
abbrev pub held_for_good : List Write → Content
held_for_good writes = record { kind = Final; finished = true; writes = writes }

-- the writes of an answer, and of a mutation's those that the rules declare behind them; an answer that doesn't fit has none
abbrev pub held_after : {O : Type 0} → Meaning O → O → Bool → Value → Result (List Write) (List ℕ) → Content
held_after meaning operation mutates body (Err path) = given_up
held_after meaning operation false body (Ok writes) = held_for_good writes
held_after meaning operation true body (Ok writes) = held_for_good (writes ++ meaning.updates operation body)

-- what a ticket holds: so far nothing or a mutation's guess, after an answer its writes, and without an answer nothing for good
abbrev pub held_by : {O : Type 0} → Meaning O → O → Bool → Came → Content
held_by meaning operation false nothing = no_content
held_by meaning operation true nothing = held_before (meaning.guess operation)
held_by meaning operation mutates (answered body errors) = held_after meaning operation mutates body (meaning.written operation body errors)
held_by meaning operation mutates no_answer = given_up

-- the content of a ticket follows from its operation and from what came of it, and from nothing else
abbrev pub content_for : {O : Type 0} → Meaning O → SentOperation O → Content
content_for meaning sent = held_by meaning sent.operation sent.mutates sent.came

-- this was sent under the ticket, and nothing came of it so far
abbrev pub IsAwaited : {O : Type 0} → List (SentOperation O) → ℕ → O → Bool → Type 0
IsAwaited results ticket operation mutates =
    slice_get results (ticket - 1) ≡ Some (record { operation = operation; mutates = mutates; came = nothing })

-- the history is what these results come to, ticket by ticket, and each open fetch and each mutation without its final answer is awaited
pub record HasResultsIn {O : Type 0} (meaning : Meaning O) (results : List (SentOperation O)) (history : History) (fetches : List (OpenFetch O)) (mutations : List (PendingMutation O)) : Type 0 where
  pub contents : history ≡ map (content_for meaning) results
  pub sent : AllByRecursion (λ (fetch : OpenFetch O). IsAwaited results fetch.ticket fetch.operation (is_none fetch.key)) fetches
  pub waiting : AllByRecursion (λ (pending : PendingMutation O). IsAwaited results pending.ticket pending.operation true) mutations

-- these results are those of a state: its history is what they come to, and what is open in it is awaited
abbrev pub HasResults : {O : Type 0} → Meaning O → List (SentOperation O) → GatewayState O → Type 0
HasResults meaning results state = HasResultsIn meaning results state.history state.fetches state.mutations

-- ---- how results go on

-- what came of the ticket at a place, counted from 0; of one that wasn't drawn nothing did
abbrev pub came_at : {O : Type 0} → List (SentOperation O) → ℕ → Came
came_at results place = option_map_or (λ sent. sent.came) (slice_get results place) nothing

-- what was sent, and whether it is a mutation
abbrev pub asked : {O : Type 0} → SentOperation O → O × Bool
asked sent = (sent.operation, sent.mutates)

-- the command is the response to the fetch of this number, with this answer
abbrev pub IsAnswer : Command-F Command Dispatch → ℕ → Value → Value → Type 0
IsAnswer (Command-F.Respond peer fetch line given) number body errors = (fetch ≡ number) × (given ≡ outcome.Body body errors)
IsAnswer _ number body errors = ⊥

-- a command brings this for a fetch: an answer only where it is the response to that fetch with this answer
abbrev pub Brings : {O : Type 0} → GatewayState O → Command → OpenFetch O → Came → Type 0
Brings state command fetch nothing = ⊥
Brings state command fetch (answered body errors) = IsOpen fetch state × IsAnswer (out-Command command) fetch.number body errors
Brings state command fetch no_answer = Unit {0}

-- what came of the ticket at a place stays; or nothing had come of it, and the command brings something for a fetch of that ticket
abbrev pub GoesOn : {O : Type 0} → GatewayState O → Command → ℕ → Came → Came → Type 0
GoesOn {O} state command place before after =
    (after ≡ before) ⊎ ((before ≡ nothing) × (fetch : OpenFetch O) × (fetch.ticket - 1 ≡ place) × Brings state command fetch after)

-- by a command no ticket changes its operation, new ones come behind, and what came of each goes on
pub record GoOn {O : Type 0} (state : GatewayState O) (command : Command) (results after : List (SentOperation O)) : Type 0 where
  pub drawn : (more : List (O × Bool)) × (map asked after ≡ map asked results ++ more)
  pub came : (place : ℕ) → GoesOn state command place (came_at results place) (came_at after place)

-- by the first command that waits, where there is one
abbrev pub GoOnByFirst : {O : Type 0} → GatewayState O → List Job → List (SentOperation O) → List (SentOperation O) → Type 0
GoOnByFirst state [] results after = after ≡ results
GoOnByFirst state (job ∷ jobs) results after = GoOn (record state { jobs = jobs }) job.command results after

-- by so many commands that are taken one after another
abbrev pub GoOnBySteps : {O : Type 0} → ℕ → Meaning O → GatewayState O → List (SentOperation O) → List (SentOperation O) → Type 0
GoOnBySteps zero meaning state results after = after ≡ results
GoOnBySteps {O} (suc n) meaning state results after =
    (between : List (SentOperation O)) × GoOnByFirst state state.jobs results between × GoOnBySteps n meaning (command_taken meaning state).state between after

-- by outside commands, each with its run
abbrev pub GoOnByRuns : {O : Type 0} → Meaning O → List Command → GatewayState O → List (SentOperation O) → List (SentOperation O) → Type 0
GoOnByRuns meaning [] state results after = after ≡ results
GoOnByRuns {O} meaning (command ∷ commands) state results after =
    (first : Step O) × (between : List (SentOperation O)) × (run : IsRun meaning command state first)
    × GoOnBySteps run.commands meaning (with_command command state) results between × GoOnByRuns meaning commands first.state between after

-- ---- laws

-- a row that is offered at the opening is sent, and awaited
abbrev pub offered_row : {O : Type 0} → Offered O → SentOperation O
offered_row offer = record { operation = offer.1; mutates = true; came = nothing }

-- before the first command the results are the rows that were offered
abbrev pub ResultsAtFirst : Type 0 → Type 0
ResultsAtFirst O = (meaning : Meaning O) (rows : MutationQueue) (offers : List (Offered O))
    → HasResults meaning (map offered_row offers) (all_offered meaning offers (first_state rows)).state

-- by every command they go on, and the history stays what they come to
abbrev pub ResultsGoOn : Type 0 → Type 0
ResultsGoOn O = (meaning : Meaning O) (job : Job) (state : GatewayState O) (results : List (SentOperation O)) → IsApart state → HasResults meaning results state
    → (after : List (SentOperation O)) × HasResults meaning after (command_step meaning job state).state × GoOn state job.command results after

-- so after the opening and any outside commands, each with its run, the cache is the map of what came of each ticket
abbrev pub RunsHaveResults : Type 0 → Type 0
RunsHaveResults O = (meaning : Meaning O) (rows : MutationQueue) (offers : List (Offered O)) (commands : List Command) (step : Step O)
    → AreRuns meaning commands (all_offered meaning offers (first_state rows)).state step
    → (results : List (SentOperation O)) × HasResults meaning results step.state
    × GoOnByRuns meaning commands (all_offered meaning offers (first_state rows)).state (map offered_row offers) results

-- two runs that drew the same tickets for the same operations and got the same results have one map, whatever the order in which
-- these came and whatever else was done in between
abbrev pub OneMapOfResults : Type 0 → Type 0
OneMapOfResults O = (meaning : Meaning O) (results others : List (SentOperation O)) (state other : GatewayState O) → HasResults meaning results state → HasResults meaning others other
    → map asked results ≡ map asked others → ((place : ℕ) → came_at results place ≡ came_at others place)
    → (entity field : List ℕ) → flattened state.history entity field ≡ flattened other.history entity field
