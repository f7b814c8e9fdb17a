-- Teardowns: a client drops an operation, or is gone (urql, teardown).
use Rattle.std.specs.Prelude.{ℕ, ◌==◌, Bool, false, not, if◌then◌else◌, List, [], ◌∷◌, filter, find, Option, Some, None}
use Rattle.std.specs.List.{list_any}
use Rattle.std.specs.Option.{option_map_or}
use Rattle.machine_model.specs.declared.output.Out.TheVariants as out
use Rattle.machine_model.specs.declared.output.Refusal.TheVariants as refusal
use Rattle.machine_model.specs.Operations.{Meaning}
use Rattle.machine_model.specs.State.{GatewayState, LiveOperation, Listening, query, mutation, OpenFetch, is_named, is_for_key}
use Rattle.machine_model.specs.FollowUps.{without_peer}
use Rattle.machine_model.specs.Steps.{Step, Change, followed_by, stops, reevaluates, unmoved, given, refused, and_then, emptied}
use Rattle.machine_model.specs.Sequels.{concluded}

-- the operation leaves the live list
abbrev pub without_named : {O : Type 0} → ℕ → ℕ → GatewayState O → GatewayState O
without_named peer id state = record state { live = filter (λ live. not (is_named peer id live)) state.live }

-- the operation is a query of this key
abbrev pub listens_for : {O : Type 0} → ℕ → Listening O → Bool
listens_for key (query listening) = listening.key == key
listens_for key (mutation ticket) = false

-- some live query has this key
abbrev pub has_listener : {O : Type 0} → GatewayState O → ℕ → Bool
has_listener state key = list_any (λ live. listens_for key live.listens) state.live

-- the fetch is open no more
abbrev pub closed : {O : Type 0} → ℕ → GatewayState O → GatewayState O
closed number state = record state { fetches = filter (λ fetch. not (fetch.number == number)) state.fetches }

-- a fetch that nobody waits for is forgotten: it is cancelled, and its ticket is given up
abbrev pub forgotten : {O : Type 0} → GatewayState O → OpenFetch O → Change O
forgotten state fetch =
    followed_by (given (out.Cancel fetch.number) (emptied fetch.ticket (closed fetch.number state))) (reevaluates (Some fetch.ticket) None)

-- live queries are re-evaluated, though no content changed
abbrev pub nothing_forgotten : {O : Type 0} → GatewayState O → Change O
nothing_forgotten state = followed_by (unmoved state) (reevaluates None None)

-- the last query of a key has left: its fetch is forgotten, where one is open
abbrev pub key_left : {O : Type 0} → ℕ → GatewayState O → Change O
key_left key state = option_map_or (forgotten state) (find (is_for_key key) state.fetches) (nothing_forgotten state)

-- after a query left its key may have other listeners; a mutation goes on without a listener
abbrev pub left_behind : {O : Type 0} → Listening O → GatewayState O → Change O
left_behind (query listening) state = if has_listener state listening.key then nothing_forgotten state else key_left listening.key state
left_behind (mutation ticket) state = nothing_forgotten state

-- the live operation of this client and this number is torn down
abbrev pub torn_down : {O : Type 0} → ℕ → ℕ → Listening O → GatewayState O → Change O
torn_down peer id listening state = left_behind listening (without_named peer id state)

-- a teardown of nothing is refused, unless it took a dispatch of that number out of the queue
abbrev pub torn_where_live : {O : Type 0} → ℕ → ℕ → ℕ → Bool → GatewayState O → Option (LiveOperation O) → Change O
torn_where_live peer id line took_out state (Some live) = torn_down peer id live.listens state
torn_where_live peer id line took_out state None =
    followed_by (if took_out then unmoved state else refused peer line refusal.E5 state) stops

-- the client drops the operation that it gave this number (urql, teardown)
abbrev pub teardown : {O : Type 0} → ℕ → ℕ → ℕ → Bool → GatewayState O → Change O
teardown peer id line took_out state = torn_where_live peer id line took_out state (find (is_named peer id) state.live)

-- these operations are torn down one after another, each with what follows
abbrev pub all_torn_down : {O : Type 0} → Meaning O → List (LiveOperation O) → GatewayState O → Step O
all_torn_down meaning [] state = unmoved state
all_torn_down meaning (live ∷ more) state = and_then (concluded meaning (torn_down live.peer live.id live.listens state)) (all_torn_down meaning more)

-- the commands of a client leave the queue
abbrev pub commands_dropped : {O : Type 0} → ℕ → GatewayState O → Step O
commands_dropped peer state = unmoved (record state { jobs = without_peer peer state.jobs })

-- a client that is gone has each of its operations torn down, in order of dispatch, and its commands never run
abbrev pub gone : {O : Type 0} → Meaning O → ℕ → GatewayState O → Step O
gone meaning peer state =
    and_then (all_torn_down meaning (filter (λ live. live.peer == peer) state.live) state) (commands_dropped peer)
