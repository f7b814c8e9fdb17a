-- What holds of the machine, whatever operations mean.
use Rattle.std.specs.Prelude.{◌≡◌, ℕ, zero, suc, ◌-◌, ◌<◌, ◌≤◌, ◌==◌, ◌&&◌, Bool, true, false, if◌then◌else◌, List, [], ◌∷◌, ◌++◌, fold, find, flat_map, length, slice_index_or, Option, Some, None, unwrap_or}
use Rattle.std.specs.Option.{option_or}
use Rattle.std.specs.List.{list_any, AllByRecursion}
use Rattle.gql_value.specs.declared.outcome.Outcome.{Outcome}
use Rattle.cache_model.specs.declared.write.Write.{Write}
use Rattle.cache_model.specs.declared.kind.Kind.{Kind}
use Rattle.cache_model.specs.Maps.{CellMap, effect}
use Rattle.cache_model.specs.History.{History, Content, no_content, filled, finished, flattened}
use Rattle.machine_model.specs.declared.command.Command.{Command}
use Rattle.machine_model.specs.declared.output.Out.{Out}
use Rattle.machine_model.specs.declared.output.Out.TheVariants as out
use Rattle.machine_model.specs.Operations.{Meaning}
use Rattle.machine_model.specs.State.{GatewayState, OpenFetch, PendingMutation, Listening, query, mutation, Job, is_live}
use Rattle.machine_model.specs.FollowUps.{is_waiting_for}
use Rattle.machine_model.specs.Steps.{Step}
use Rattle.machine_model.specs.Sequels.{concluded}
use Rattle.machine_model.specs.Teardowns.{closed, teardown}
use Rattle.machine_model.specs.Responses.{response}
use Rattle.machine_model.specs.Commands.{command_step}
use Rattle.machine_model.specs.Runs.{IsRun, command_taken, commands_taken}

-- ---- the map

-- all writes of all contents, in order of tickets
abbrev pub all_writes : History → List Write
all_writes history = flat_map (λ content. content.writes) history

-- the flattened map is one plain map: each cell is what the last write that covers it says, over all present results in
-- order of first sending, and without such a write there is none
abbrev pub LastWriteCounts : Type 0
LastWriteCounts = (history : History) (entity field : List ℕ)
    → flattened history entity field ≡ unwrap_or (effect (all_writes history) entity field) None

-- a result that comes for a ticket: an answer's writes, or nothing where the ticket is given up
pub record Arrival : Type 0 where
  pub ticket : ℕ
  pub kind : Kind
  pub writes : List Write

-- the history after a result has come, which is final
abbrev pub arrived : History → Arrival → History
arrived history arrival = finished (filled history arrival.ticket arrival.writes arrival.kind) arrival.ticket

-- the history after some results have come, one after another
abbrev pub all_arrived : History → List Arrival → History
all_arrived history arrivals = fold arrived history arrivals

-- the last of these results that is for a ticket
abbrev pub result_for : ℕ → List Arrival → Option Arrival
result_for ticket [] = None
result_for ticket (arrival ∷ arrivals) = option_or (result_for ticket arrivals) (if arrival.ticket == ticket then Some arrival else None)

-- each is for a ticket that may have been drawn
abbrev pub AreForTickets : List Arrival → Type 0
AreForTickets arrivals = AllByRecursion (λ arrival. 1 ≤ arrival.ticket) arrivals

-- two runs that drew the same tickets and got the same results for them have one history, whatever the order of arrival
abbrev pub ArrivalsInAnyOrder : Type 0
ArrivalsInAnyOrder = (history : History) (arrivals others : List Arrival) → AreForTickets arrivals → AreForTickets others
    → ((ticket : ℕ) → result_for ticket arrivals ≡ result_for ticket others)
    → all_arrived history arrivals ≡ all_arrived history others

-- and so one map
abbrev pub ArrivalsInAnyOrderFlattened : Type 0
ArrivalsInAnyOrderFlattened = (history : History) (arrivals others : List Arrival) → AreForTickets arrivals → AreForTickets others
    → ((ticket : ℕ) → result_for ticket arrivals ≡ result_for ticket others)
    → (entity field : List ℕ) → flattened (all_arrived history arrivals) entity field ≡ flattened (all_arrived history others) entity field

-- the fetch is for the ticket at this place of the history, counted from 0
abbrev pub is_fetch_at : {O : Type 0} → ℕ → OpenFetch O → Bool
is_fetch_at place fetch = fetch.ticket - 1 == place

-- the mutation is of the ticket at this place of the history, counted from 0
abbrev pub is_mutation_at : {O : Type 0} → ℕ → PendingMutation O → Bool
is_mutation_at place pending = pending.ticket - 1 == place

-- this is the content of the ticket at a place, and neither a fetch nor a mutation is open for it any more
pub record IsClosedIn {O : Type 0} (place : ℕ) (content : Content) (history : History) (fetches : List (OpenFetch O)) (mutations : List (PendingMutation O)) : Type 0 where
  pub drawn : place < length history
  pub is : slice_index_or history place no_content ≡ content
  pub unsent : list_any (is_fetch_at place) fetches ≡ false
  pub answered : list_any (is_mutation_at place) mutations ≡ false

-- the same of a state, with its own history, fetches and mutations
abbrev pub IsClosed : {O : Type 0} → ℕ → Content → GatewayState O → Type 0
IsClosed place content state = IsClosedIn place content state.history state.fetches state.mutations

-- every command leaves it so: what was emptied or finished never comes back, and a ticket never moves
abbrev pub ClosedTicketsStay : Type 0 → Type 0
ClosedTicketsStay O = (meaning : Meaning O) (job : Job) (state : GatewayState O) (place : ℕ) (content : Content)
    → IsClosed place content state → IsClosed place content (command_step meaning job state).state

-- and so does every run
abbrev pub ClosedTicketsStayInRuns : Type 0 → Type 0
ClosedTicketsStayInRuns O = (n : ℕ) (meaning : Meaning O) (state : GatewayState O) (place : ℕ) (content : Content)
    → IsClosed place content state → IsClosed place content (commands_taken n meaning state).state

-- the fetch is the open one of its number, its ticket was drawn, and no other fetch and no mutation is for that
pub record IsAlone {O : Type 0} (fetch : OpenFetch O) (state : GatewayState O) : Type 0 where
  pub drawn : fetch.ticket - 1 < length state.history
  pub found : find (λ other. other.number == fetch.number) state.fetches ≡ Some fetch
  pub unsent : list_any (is_fetch_at (fetch.ticket - 1)) (closed fetch.number state).fetches ≡ false
  pub answered : list_any (is_mutation_at (fetch.ticket - 1)) state.mutations ≡ false

-- whatever answers the fetch of a query, its ticket is finished and closed
abbrev pub AnswersClose : Type 0 → Type 0
AnswersClose O = (meaning : Meaning O) (state : GatewayState O) (fetch : OpenFetch O) (key peer line : ℕ) (outcome : Outcome)
    → fetch.key ≡ Some key → IsAlone fetch state
    → (content : Content) × (content.finished ≡ true) × IsClosed (fetch.ticket - 1) content (concluded meaning (response meaning peer fetch.number line outcome state)).state

-- ---- silence

-- the output is told to the operation of this client and this number
abbrev pub tells : ℕ → ℕ → Out → Bool
tells peer id (out.Reply other number answer errors partial stale) = other == peer && number == id
tells peer id (out.Fault other number ending) = other == peer && number == id
tells peer id (out.Queued other number row) = other == peer && number == id
tells peer id _ = false

-- nothing is told to that operation, and it isn't live afterwards
pub record IsSilent {O : Type 0} (peer id : ℕ) (step : Step O) : Type 0 where
  pub outs : list_any (tells peer id) step.outs ≡ false
  pub live : is_live step.state peer id ≡ false

-- an operation that isn't live is told nothing by any command but its dispatch, and doesn't become live
abbrev pub SilentUntilDispatched : Type 0 → Type 0
SilentUntilDispatched O = (meaning : Meaning O) (job : Job) (state : GatewayState O) (peer id : ℕ)
    → is_live state peer id ≡ false → is_waiting_for peer id job ≡ false → IsSilent peer id (command_step meaning job state)

-- a teardown tells its operation nothing, and the operation isn't live afterwards
abbrev pub SilentAtTeardown : Type 0 → Type 0
SilentAtTeardown O = (meaning : Meaning O) (state : GatewayState O) (peer id line : ℕ) (took_out : Bool)
    → IsSilent peer id (concluded meaning (teardown peer id line took_out state))

-- the command that is taken next, where one waits
abbrev pub first_of : List Job → List Job
first_of [] = []
first_of (job ∷ jobs) = job ∷ []

-- the commands that are taken when so many are
abbrev pub taken_commands : {O : Type 0} → ℕ → Meaning O → GatewayState O → List Job
taken_commands zero meaning state = []
taken_commands (suc n) meaning state = first_of state.jobs ++ taken_commands n meaning (command_taken meaning state).state

-- so over any run an operation that isn't live is told nothing where none of the commands taken dispatches it
abbrev pub SilentRuns : Type 0 → Type 0
SilentRuns O = (n : ℕ) (meaning : Meaning O) (state : GatewayState O) (peer id : ℕ)
    → is_live state peer id ≡ false → list_any (is_waiting_for peer id) (taken_commands n meaning state) ≡ false
    → IsSilent peer id (commands_taken n meaning state)

-- ---- readings

-- a query has read what it reads over these cells, unless it awaits its own answer
abbrev pub IsCurrent : {O : Type 0} → Meaning O → CellMap → Listening O → Type 0
IsCurrent meaning cells (query listening) = listening.awaits ≡ false → listening.last ≡ meaning.read listening.operation cells
IsCurrent meaning cells (mutation ticket) = Unit {0}

-- the last reading of each live query is the one over the flattened map
abbrev pub AreCurrent : {O : Type 0} → Meaning O → GatewayState O → Type 0
AreCurrent meaning state = AllByRecursion (λ live. IsCurrent meaning (flattened state.history) live.listens) state.live

-- every command leaves it so, and so every reply of a query is its reading of the flattened map
abbrev pub ReadingsStayCurrent : Type 0 → Type 0
ReadingsStayCurrent O = (meaning : Meaning O) (job : Job) (state : GatewayState O)
    → AreCurrent meaning state → AreCurrent meaning (command_step meaning job state).state

-- and so does every run
abbrev pub ReadingsStayCurrentInRuns : Type 0 → Type 0
ReadingsStayCurrentInRuns O = (n : ℕ) (meaning : Meaning O) (state : GatewayState O)
    → AreCurrent meaning state → AreCurrent meaning (commands_taken n meaning state).state

-- ---- runs

-- a command has one run at most
abbrev pub OneRun : Type 0 → Type 0
OneRun O = (meaning : Meaning O) (command : Command) (state : GatewayState O) (step other : Step O)
    → IsRun meaning command state step → IsRun meaning command state other → step ≡ other
