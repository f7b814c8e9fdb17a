-- The origin's answer to a fetch, or the fault that came in its place.
use Rattle.std.specs.Prelude.{ℕ, ◌==◌, ◌+◌, ◌^◌, ◌&&◌, Bool, false, not, if◌then◌else◌, List, [], ◌∷◌, ◌++◌, map, filter, find, is_some, nat_lt, Option, Some, None, Result}
use Rattle.std.specs.Option.{option_map_or}
use Rattle.std.specs.declared.result.Result.TheVariants.{Ok, Err}
use Rattle.gql_value.specs.declared.value.Value.{Value}
use Rattle.gql_value.specs.declared.outcome.Fault.{Fault}
use Rattle.gql_value.specs.declared.outcome.Fault.TheVariants.{F4, F6}
use Rattle.gql_value.specs.declared.outcome.Outcome.{Outcome}
use Rattle.gql_value.specs.declared.outcome.Outcome.TheVariants as outcome
use Rattle.cache_model.specs.declared.write.Write.{Write}
use Rattle.queue_model.specs.Queue.{MutationQueue, need_of, queued, completed}
use Rattle.machine_model.specs.declared.output.Out.TheVariants as out
use Rattle.machine_model.specs.declared.output.Ending.{Ending}
use Rattle.machine_model.specs.declared.output.Ending.TheVariants.{Outside, QueueFull}
use Rattle.machine_model.specs.declared.output.Refusal.TheVariants as refusal
use Rattle.machine_model.specs.Operations.{Meaning, Identity}
use Rattle.machine_model.specs.State.{GatewayState, LiveOperation, Listening, query, mutation, OpenFetch, PendingMutation}
use Rattle.machine_model.specs.Steps.{Step, Change, followed_by, stops, reevaluates, unmoved, refused, and_then, settled_with, emptied}
use Rattle.machine_model.specs.Telling.{Turn, untold, told, all_turned, faulted, listening_as, listener_turned, without_listener}
use Rattle.machine_model.specs.Reevaluation.{reading_now, reread}
use Rattle.machine_model.specs.Teardowns.{closed}

-- ---- queries

-- a query of the key is told the fault, and then neither awaits an answer nor is due
abbrev pub fault_turn : {O : Type 0} → Meaning O → GatewayState O → ℕ → Fault → LiveOperation O → Listening O → Turn O
fault_turn meaning state key fault live (query listening) =
    if listening.key == key
    then faulted meaning (Outside fault) (listening_as live (reread listening (reading_now meaning state listening) false))
    else untold live
fault_turn meaning state key fault live (mutation ticket) = untold live

-- each query of the key has that turn, in order of dispatch
abbrev pub all_faulted : {O : Type 0} → Meaning O → ℕ → Fault → GatewayState O → Step O
all_faulted meaning key fault state = all_turned (λ live. fault_turn meaning state key fault live live.listens) state

-- a query's fetch without an answer: its ticket is given up, and all that listen to its key are told
abbrev pub query_failed : {O : Type 0} → Meaning O → OpenFetch O → ℕ → Fault → GatewayState O → Change O
query_failed meaning fetch key fault state =
    followed_by (all_faulted meaning key fault (emptied fetch.ticket state)) (reevaluates (Some fetch.ticket) None)

-- an answer's writes become the content of its ticket, wherever that stands among the tickets; an answer that doesn't fit is F4
abbrev pub query_written : {O : Type 0} → Meaning O → OpenFetch O → ℕ → Value → GatewayState O → Result (List Write) (List ℕ) → Change O
query_written meaning fetch key errors state (Ok writes) =
    followed_by (unmoved (settled_with fetch.ticket writes state))
    (reevaluates (Some fetch.ticket) (Some (record { key = key; ticket = fetch.ticket; errors = errors })))
query_written meaning fetch key errors state (Err path) = query_failed meaning fetch key (F4 path) state

-- what came for a query: an answer, to be written, or a fault, which all that listen to its key are told
abbrev pub query_answered : {O : Type 0} → Meaning O → OpenFetch O → ℕ → GatewayState O → Outcome → Change O
query_answered meaning fetch key state (outcome.Body answer errors) =
    query_written meaning fetch key errors state (meaning.written fetch.operation answer errors)
query_answered meaning fetch key state (outcome.Bad fault) = query_failed meaning fetch key fault state

-- ---- mutations

-- the mutation has its final answer
abbrev pub without_mutation : {O : Type 0} → ℕ → GatewayState O → GatewayState O
without_mutation ticket state = record state { mutations = filter (λ pending. not (pending.ticket == ticket)) state.mutations }

-- its row is done, where it has one
abbrev pub row_done : {O : Type 0} → Option ℕ → GatewayState O → GatewayState O
row_done None state = state
row_done (Some row) state = record state { rows = completed state.rows row }

-- a mutation is over: its row is done, and its listener has a last turn
abbrev pub over : {O : Type 0} → PendingMutation O → (LiveOperation O → Turn O) → GatewayState O → Change O
over pending turn state =
    followed_by
    (and_then (listener_turned pending.ticket turn (row_done pending.row (without_mutation pending.ticket state)))
    (λ after. unmoved (without_listener pending.ticket after)))
    (reevaluates (Some pending.ticket) None)

-- a mutation without an answer that it might still get: its guess is taken back, and its listener told
abbrev pub mutation_failed : {O : Type 0} → Meaning O → PendingMutation O → Ending → GatewayState O → Change O
mutation_failed meaning pending ending state = over pending (faulted meaning ending) (emptied pending.ticket state)

-- its listener is told the answer itself, cut to what was asked; it is neither partial nor stale
abbrev pub answer_turn : {O : Type 0} → Meaning O → O → Value → Value → LiveOperation O → Turn O
answer_turn meaning operation answer errors live =
    told meaning live (out.Reply live.peer live.id (meaning.projected operation answer) errors false false)

-- the answer's writes, with those that the rules declare behind them, take the place of the guess; an answer that doesn't fit is F4
abbrev pub mutation_written : {O : Type 0} → Meaning O → PendingMutation O → Value → Value → GatewayState O → Result (List Write) (List ℕ) → Change O
mutation_written meaning pending answer errors state (Ok writes) =
    over pending (answer_turn meaning pending.operation answer errors)
    (settled_with pending.ticket (writes ++ meaning.updates pending.operation answer) state)
mutation_written meaning pending answer errors state (Err path) = mutation_failed meaning pending (Outside (F4 path)) state

-- ---- mutations that can't reach the origin (after urql's offlineExchange)

-- the queue has a number for one more row
abbrev pub has_row_number : MutationQueue → Bool
has_row_number queue = nat_lt (queue.greatest + 1) (2 ^ 63)

-- the queue has no room for this mutation
abbrev pub is_full : MutationQueue → Identity → Bool
is_full queue identity = nat_lt queue.limit (queue.end + need_of identity.document identity.operation identity.variables)

-- the mutation of this ticket has this row
abbrev pub in_row : {O : Type 0} → ℕ → ℕ → PendingMutation O → PendingMutation O
in_row ticket row pending = if pending.ticket == ticket then record pending { row = Some row } else pending

-- a mutation is kept in a row of its own
abbrev pub with_row : {O : Type 0} → ℕ → ℕ → GatewayState O → GatewayState O
with_row ticket row state = record state { mutations = map (in_row ticket row) state.mutations }

-- its listener is told the row, and stays live; what it was given to follow waits for the answer
abbrev pub queued_turn : {O : Type 0} → ℕ → LiveOperation O → Turn O
queued_turn row live = record { live = live; outs = out.Queued live.peer live.id row ∷ []; follow_ups = [] }

-- a mutation is put into the queue as the next row; its listener is told the row, and its guess stays
abbrev pub mutation_queued : {O : Type 0} → PendingMutation O → Identity → GatewayState O → Change O
mutation_queued pending identity state =
    let row = state.rows.greatest + 1 in
    followed_by
    (listener_turned pending.ticket (queued_turn row)
    (with_row pending.ticket row (record state { rows = queued state.rows identity.document identity.operation identity.variables })))
    (reevaluates None None)

-- where the queue is full it ends with E13; a queue without a number left stops the gateway instead
abbrev pub mutation_put : {O : Type 0} → Meaning O → PendingMutation O → Identity → GatewayState O → Change O
mutation_put meaning pending identity state =
    if has_row_number state.rows && is_full state.rows identity
    then mutation_failed meaning pending QueueFull state
    else mutation_queued pending identity state

-- an optimistic mutation is put into the queue, any other ends; one that has a row already just stays, with its ticket and its content
abbrev pub mutation_unreached : {O : Type 0} → Meaning O → PendingMutation O → Option ℕ → GatewayState O → Change O
mutation_unreached meaning pending (Some row) state = followed_by (unmoved state) (reevaluates None None)
mutation_unreached meaning pending None state =
    if is_some (meaning.guess pending.operation)
    then mutation_put meaning pending (meaning.identity pending.operation) state
    else mutation_failed meaning pending (Outside F6) state

-- F6 says that the origin wasn't reached, any other fault is final
abbrev pub mutation_ended : {O : Type 0} → Meaning O → PendingMutation O → GatewayState O → Fault → Change O
mutation_ended meaning pending state F6 = mutation_unreached meaning pending pending.row state
mutation_ended meaning pending state fault = mutation_failed meaning pending (Outside fault) state

-- what came for a mutation: an answer, to be written, or a fault, which ends it or leaves it to the queue
abbrev pub mutation_answered : {O : Type 0} → Meaning O → PendingMutation O → GatewayState O → Outcome → Change O
mutation_answered meaning pending state (outcome.Body answer errors) =
    mutation_written meaning pending answer errors state (meaning.written pending.operation answer errors)
mutation_answered meaning pending state (outcome.Bad fault) = mutation_ended meaning pending state fault

-- ---- any fetch

-- the mutation of a ticket, which every open fetch of a mutation has
abbrev pub pending_of : {O : Type 0} → ℕ → GatewayState O → Option (PendingMutation O)
pending_of ticket state = find (λ pending. pending.ticket == ticket) state.mutations

-- what came for a fetch is for the queries of its key; without a key it is for the mutation of its ticket
abbrev pub fetch_answered : {O : Type 0} → Meaning O → OpenFetch O → Outcome → GatewayState O → Option ℕ → Change O
fetch_answered meaning fetch outcome state (Some key) = query_answered meaning fetch key state outcome
fetch_answered meaning fetch outcome state None =
    option_map_or (λ pending. mutation_answered meaning pending state outcome) (pending_of fetch.ticket state) (followed_by (unmoved state) stops)

-- where no fetch of that number is open the response is refused (E10); else the fetch is closed, and its answer taken
abbrev pub answered_where_open : {O : Type 0} → Meaning O → ℕ → ℕ → Outcome → GatewayState O → Option (OpenFetch O) → Change O
answered_where_open meaning peer line outcome state None = followed_by (refused peer line refusal.E10 state) stops
answered_where_open meaning peer line outcome state (Some fetch) = fetch_answered meaning fetch outcome (closed fetch.number state) fetch.key

-- an answer is for the open fetch of its number, and closes it
abbrev pub response : {O : Type 0} → Meaning O → ℕ → ℕ → ℕ → Outcome → GatewayState O → Change O
response meaning peer number line outcome state =
    answered_where_open meaning peer line outcome state (find (λ fetch. fetch.number == number) state.fetches)
