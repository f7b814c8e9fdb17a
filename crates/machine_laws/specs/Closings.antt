-- What is open for a ticket, and what it holds when nothing is.
use Rattle.std.specs.Prelude.{◌≡◌, ℕ, ◌-◌, ◌<◌, ◌==◌, ◌&&◌, Bool, true, false, List, [], find, Some, None, is_some, is_none}
use Rattle.std.specs.List.{list_any, AllByRecursion}
use Rattle.gql_value.specs.declared.outcome.Fault.TheVariants.{F6}
use Rattle.gql_value.specs.declared.outcome.Outcome.{Outcome}
use Rattle.gql_value.specs.declared.outcome.Outcome.TheVariants as outcome
use Rattle.cache_model.specs.declared.kind.Kind.TheVariants.{Empty}
use Rattle.cache_model.specs.History.{History, Content}
use Rattle.queue_model.specs.Queue.{MutationQueue}
use Rattle.machine_model.specs.declared.command.Command.{Command}
use Rattle.machine_model.specs.Operations.{Meaning}
use Rattle.machine_model.specs.State.{GatewayState, LiveOperation, LiveQuery, query, OpenFetch, PendingMutation, Job, is_named, is_for_key, first_state}
use Rattle.machine_model.specs.Steps.{Step}
use Rattle.machine_model.specs.Sequels.{concluded}
use Rattle.machine_model.specs.Teardowns.{has_listener, without_named, teardown}
use Rattle.machine_model.specs.Responses.{has_row_number, is_full, pending_of, response}
use Rattle.machine_model.specs.Rows.{Offered, all_offered}
use Rattle.machine_model.specs.Commands.{command_step}
use Rattle.machine_model.specs.Runs.{AreRuns}
use Rattle.machine_model.specs.Laws.{IsClosedIn, IsClosed, IsAlone}
use Rattle.machine_laws.specs.Tickets.{AreInOrder}
use Rattle.machine_laws.specs.Answers.{ends, IsAloneFor}

-- a mutation without its final answer has this ticket
abbrev pub is_pending : {O : Type 0} → ℕ → List (PendingMutation O) → Bool
is_pending ticket mutations = list_any (λ pending. pending.ticket == ticket) mutations

-- Tickets are in order, and those of open fetches are counted from 1. The ticket of an open fetch is that of a mutation without
-- its final answer exactly where the fetch has no key. A content for which nothing is open is finished.
pub record AreApart {O : Type 0} (history : History) (fetches : List (OpenFetch O)) (mutations : List (PendingMutation O)) (next : ℕ) : Type 0 where
  pub order : AreInOrder history fetches mutations next
  pub counted : AllByRecursion (λ (fetch : OpenFetch O). 0 < fetch.ticket) fetches
  pub apart : AllByRecursion (λ (fetch : OpenFetch O). is_pending fetch.ticket mutations ≡ is_none fetch.key) fetches
  pub finished : (place : ℕ) (content : Content) → IsClosedIn place content history fetches mutations → content.finished ≡ true

-- a state's history, open fetches, mutations and next number of a fetch are so
abbrev pub IsApart : {O : Type 0} → GatewayState O → Type 0
IsApart state = AreApart state.history state.fetches state.mutations state.next_fetch

-- it is so before the first command, whatever queue is found and whichever of its rows are offered
abbrev pub TicketsApartAtFirst : Type 0 → Type 0
TicketsApartAtFirst O = (meaning : Meaning O) (rows : MutationQueue) (offers : List (Offered O)) → IsApart (all_offered meaning offers (first_state rows)).state

-- every command leaves it so
abbrev pub TicketsApart : Type 0 → Type 0
TicketsApart O = (meaning : Meaning O) (job : Job) (state : GatewayState O) → IsApart state → IsApart (command_step meaning job state).state

-- and so it is after the opening and any outside commands, each with its run
abbrev pub TicketsApartInRuns : Type 0 → Type 0
TicketsApartInRuns O = (meaning : Meaning O) (rows : MutationQueue) (offers : List (Offered O)) (commands : List Command) (step : Step O)
    → AreRuns meaning commands (all_offered meaning offers (first_state rows)).state step → IsApart step.state

-- the fetch is the open one of its number
abbrev pub IsOpen : {O : Type 0} → OpenFetch O → GatewayState O → Type 0
IsOpen fetch state = find (λ other. other.number == fetch.number) state.fetches ≡ Some fetch

-- then each open fetch of a query is alone with its ticket
abbrev pub QueriesAlone : Type 0 → Type 0
QueriesAlone O = (state : GatewayState O) (fetch : OpenFetch O) → IsApart state → IsOpen fetch state → is_some fetch.key ≡ true → IsAlone fetch state

-- and each open fetch of a mutation is alone with it and its ticket
abbrev pub MutationsAlone : Type 0 → Type 0
MutationsAlone O = (state : GatewayState O) (fetch : OpenFetch O) → IsApart state → IsOpen fetch state → fetch.key ≡ None
    → (pending : PendingMutation O) × IsAloneFor fetch pending state

-- a fetch of this number is open
abbrev pub is_open : {O : Type 0} → ℕ → GatewayState O → Bool
is_open number state = list_any (λ fetch. fetch.number == number) state.fetches

-- whichever command ends the open fetch of a query, an answer to it or the teardown of an operation or a client, its ticket is
-- finished and closed then
abbrev pub QueriesClose : Type 0 → Type 0
QueriesClose O = (meaning : Meaning O) (job : Job) (state : GatewayState O) (fetch : OpenFetch O)
    → IsApart state → IsOpen fetch state → is_some fetch.key ≡ true → is_open fetch.number (command_step meaning job state).state ≡ false
    → (content : Content) × (content.finished ≡ true) × IsClosed (fetch.ticket - 1) content (command_step meaning job state).state

-- and whichever command ends a mutation, by its answer, a fault or a full queue, so is the ticket of that
abbrev pub MutationsClose : Type 0 → Type 0
MutationsClose O = (meaning : Meaning O) (job : Job) (state : GatewayState O) (ticket : ℕ)
    → IsApart state → is_pending ticket state.mutations ≡ true → is_pending ticket (command_step meaning job state).state.mutations ≡ false
    → (content : Content) × (content.finished ≡ true) × IsClosed (ticket - 1) content (command_step meaning job state).state

-- so whatever answers an open fetch of a query, its ticket is finished and closed
abbrev pub OpenQueriesClose : Type 0 → Type 0
OpenQueriesClose O = (meaning : Meaning O) (state : GatewayState O) (fetch : OpenFetch O) (key peer line : ℕ) (outcome : Outcome)
    → IsApart state → IsOpen fetch state → fetch.key ≡ Some key
    → (content : Content) × (content.finished ≡ true) × IsClosed (fetch.ticket - 1) content (concluded meaning (response meaning peer fetch.number line outcome state)).state

-- and after the last that it gets so is the ticket of a mutation
abbrev pub OpenMutationsClose : Type 0 → Type 0
OpenMutationsClose O = (meaning : Meaning O) (state : GatewayState O) (fetch : OpenFetch O) (pending : PendingMutation O) (peer line : ℕ) (outcome : Outcome)
    → IsApart state → IsOpen fetch state → fetch.key ≡ None → pending_of fetch.ticket state ≡ Some pending → ends meaning pending outcome ≡ true
    → (content : Content) × (content.finished ≡ true) × IsClosed (pending.ticket - 1) content (concluded meaning (response meaning peer fetch.number line outcome state)).state

-- what a ticket holds that is given up
abbrev pub given_up : Content
given_up = record { kind = Empty; finished = true; writes = [] }

-- a teardown of the last query of a key cancels the open fetch for that, and the ticket of this is emptied, finished and closed then
abbrev pub TeardownsClose : Type 0 → Type 0
TeardownsClose O = (meaning : Meaning O) (state : GatewayState O) (peer id line : ℕ) (took_out : Bool) (live : LiveOperation O) (listening : LiveQuery O) (fetch : OpenFetch O)
    → IsApart state → find (is_named peer id) state.live ≡ Some live → live.listens ≡ query listening
    → has_listener (without_named peer id state) listening.key ≡ false → find (is_for_key listening.key) state.fetches ≡ Some fetch
    → IsClosed (fetch.ticket - 1) given_up (concluded meaning (teardown peer id line took_out state)).state

-- an optimistic mutation without a row that can't reach the origin while the queue is full ends, and its ticket is emptied, finished and closed then
abbrev pub FullQueuesClose : Type 0 → Type 0
FullQueuesClose O = (meaning : Meaning O) (state : GatewayState O) (fetch : OpenFetch O) (pending : PendingMutation O) (peer line : ℕ)
    → IsApart state → IsOpen fetch state → fetch.key ≡ None → pending_of fetch.ticket state ≡ Some pending
    → pending.row ≡ None → is_some (meaning.guess pending.operation) ≡ true → (has_row_number state.rows && is_full state.rows (meaning.identity pending.operation)) ≡ true
    → IsClosed (pending.ticket - 1) given_up (concluded meaning (response meaning peer fetch.number line (outcome.Bad F6) state)).state
