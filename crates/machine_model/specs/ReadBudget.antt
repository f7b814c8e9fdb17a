-- How many cells a step may look at: those of the queries that it concerns, and not of every live query.
use Rattle.std.specs.Prelude.{ℕ, zero, suc, ◌+◌, ◌==◌, ◌&&◌, ◌||◌, Bool, false, not, nat_lt, if◌then◌else◌, List, [], ◌∷◌, sum_by, filter, length, Option, Some, None}
use Rattle.std.specs.List.{list_any, last_or}
use Rattle.std.specs.Option.{option_map_or}
use Rattle.cache_model.specs.History.{Content, content_of, touches}
use Rattle.machine_model.specs.declared.command.Command.{Command, out-Command}
use Rattle.machine_model.specs.declared.command.Command.TheOpen.{Command-F}
use Rattle.machine_model.specs.declared.command.Dispatch.{Dispatch, out-Dispatch}
use Rattle.machine_model.specs.Operations.{Meaning, Places}
use Rattle.machine_model.specs.State.{GatewayState, LiveOperation, LiveQuery, Listening, query, mutation, OpenFetch, Job}
use Rattle.machine_model.specs.Steps.{Change, Sequel, stops, issues, reevaluates, Answer}
use Rattle.machine_model.specs.Reevaluation.{reading_now, is_answer_for}
use Rattle.machine_model.specs.Sequels.{concluded}
use Rattle.machine_model.specs.Teardowns.{torn_down, teardown, listens_for}
use Rattle.machine_model.specs.Responses.{response}
use Rattle.machine_model.specs.Inspection.{cells_of}
use Rattle.machine_model.specs.Commands.{dispatched}
use Rattle.machine_model.specs.Runs.{command_taken}

-- a content has a write that covers one of these places
abbrev pub touches_some : Places → Content → Bool
touches_some places content = list_any (λ place. touches place.0 place.1 content) places

-- the old or the new content of the changed ticket covers what the query looked at last
abbrev pub is_woken : {O : Type 0} → GatewayState O → GatewayState O → LiveQuery O → ℕ → Bool
is_woken before after listening ticket =
    touches_some listening.last.visited (content_of before.history ticket) || touches_some listening.last.visited (content_of after.history ticket)

-- a re-evaluation has to read the queries of the answered key, and those that the change wakes and that don't await an answer
abbrev pub must_be_read : {O : Type 0} → GatewayState O → GatewayState O → Option ℕ → Option Answer → LiveQuery O → Bool
must_be_read before after ticket answer listening =
    is_answer_for listening.key answer
    || (not listening.awaits && option_map_or (is_woken before after listening) ticket false)

-- how many cells a query looks at when it is read now
abbrev pub cells_now : {O : Type 0} → Meaning O → GatewayState O → LiveQuery O → ℕ
cells_now meaning state listening = length (reading_now meaning state listening).visited

-- how many cells a re-evaluation has to look at for a live operation; none for a mutation, or a query that needn't be read
abbrev pub reread_cells : {O : Type 0} → Meaning O → GatewayState O → GatewayState O → Option ℕ → Option Answer → Listening O → ℕ
reread_cells meaning before after ticket answer (query listening) =
    if must_be_read before after ticket answer listening then cells_now meaning after listening else 0
reread_cells meaning before after ticket answer (mutation number) = 0

-- what may be looked at after a change: what a re-evaluation has to; the issue of due fetches looks at no cells
abbrev pub sequel_budget : {O : Type 0} → Meaning O → GatewayState O → GatewayState O → Sequel → ℕ
sequel_budget meaning before after stops = 0
sequel_budget meaning before after issues = 0
sequel_budget meaning before after (reevaluates ticket answer) = sum_by (λ live. reread_cells meaning before after ticket answer live.listens) after.live

-- the cells that an operation looked at last
abbrev pub last_cells : {O : Type 0} → Listening O → ℕ
last_cells (query listening) = length listening.last.visited
last_cells (mutation ticket) = 0

-- a dispatch that is taken reads the newest query, unless that is network-only
abbrev pub dispatch_budget : {O : Type 0} → GatewayState O → GatewayState O → ℕ
dispatch_budget before after =
    if nat_lt (length before.live) (length after.live) then option_map_or (λ live. last_cells live.listens) (last_or None after.live) 0 else 0

-- a fault reads each query of its key
abbrev pub fault_budget : {O : Type 0} → ℕ → GatewayState O → ℕ
fault_budget key after = sum_by (λ live. last_cells live.listens) (filter (λ live. listens_for key live.listens) after.live)

-- the key of the open fetch of this number
abbrev pub key_of_fetch : {O : Type 0} → ℕ → List (OpenFetch O) → Option ℕ
key_of_fetch number [] = None
key_of_fetch number (fetch ∷ fetches) = if fetch.number == number then fetch.key else key_of_fetch number fetches

-- a change that follows an answer that fits reads nothing by itself
abbrev pub response_budget : {O : Type 0} → GatewayState O → Option ℕ → Sequel → ℕ
response_budget after (Some key) (reevaluates ticket None) = fault_budget key after
response_budget after _ _ = 0

-- what follows this change of the state `before` may look at
abbrev pub change_budget : {O : Type 0} → Meaning O → GatewayState O → Change O → ℕ
change_budget meaning before change = sequel_budget meaning before change.state change.sequel

-- what the teardowns of these operations may look at, one after another and each in the state that the last one left
abbrev pub gone_budget : {O : Type 0} → Meaning O → List (LiveOperation O) → GatewayState O → ℕ
gone_budget meaning [] state = 0
gone_budget meaning (live ∷ more) state =
    change_budget meaning state (torn_down live.peer live.id live.listens state) + gone_budget meaning more (concluded meaning (torn_down live.peer live.id live.listens state)).state

-- what a dispatch may look at: the cells of the new query, and those of what follows
abbrev pub dispatched_budget : {O : Type 0} → Meaning O → GatewayState O → Change O → ℕ
dispatched_budget meaning before change = dispatch_budget before change.state + change_budget meaning before change

-- what a response to a fetch of this key may look at: the cells that it reads by itself, and those of what follows
abbrev pub answered_budget : {O : Type 0} → Meaning O → GatewayState O → Option ℕ → Change O → ℕ
answered_budget meaning before key change = response_budget change.state key change.sequel + change_budget meaning before change

-- what one command may look at
abbrev pub command_budget : {O : Type 0} → Meaning O → Bool → GatewayState O → Command-F Command Dispatch → ℕ
command_budget meaning took_out state (Command-F.Dispatch dispatch) = dispatched_budget meaning state (dispatched meaning dispatch (out-Dispatch dispatch) state)
command_budget meaning took_out state (Command-F.Teardown peer id line) = change_budget meaning state (teardown peer id line took_out state)
command_budget meaning took_out state (Command-F.Respond peer fetch line outcome) =
    answered_budget meaning state (key_of_fetch fetch state.fetches) (response meaning peer fetch line outcome state)
command_budget meaning took_out state Command-F.Online = 0
command_budget meaning took_out state (Command-F.Layers peer) = 0
command_budget meaning took_out state (Command-F.Flat peer) = length (cells_of state.history)
command_budget meaning took_out state (Command-F.Gone peer) = gone_budget meaning (filter (λ live. live.peer == peer) state.live) state

-- what the first of these commands may look at once it has left the queue; nothing, where none waits
abbrev pub job_budget : {O : Type 0} → Meaning O → GatewayState O → List Job → ℕ
job_budget meaning state [] = 0
job_budget meaning state (job ∷ jobs) = command_budget meaning job.took_out (record state { jobs = jobs }) (out-Command job.command)

-- what so many commands of the queue may look at
abbrev pub read_budget : {O : Type 0} → ℕ → Meaning O → GatewayState O → ℕ
read_budget zero meaning state = 0
read_budget (suc n) meaning state = job_budget meaning state state.jobs + read_budget n meaning (command_taken meaning state).state
