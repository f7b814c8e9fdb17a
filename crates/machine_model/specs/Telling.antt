-- What live operations are told.
use Rattle.std.specs.Prelude.{ℕ, ◌==◌, ◌||◌, Bool, false, not, if◌then◌else◌, List, [], ◌∷◌, map, filter, flat_map, None}
use Rattle.std.specs.Option.{option_map_or}
use Rattle.gql_value.specs.declared.value.Value.{Value, roll-Value}
use Rattle.gql_value.specs.declared.value.Value.TheOpen.{Value-F}
use Rattle.machine_model.specs.declared.command.Command.{Command}
use Rattle.machine_model.specs.declared.output.Out.{Out}
use Rattle.machine_model.specs.declared.output.Out.TheVariants as out
use Rattle.machine_model.specs.declared.output.Ending.{Ending}
use Rattle.machine_model.specs.Operations.{Meaning}
use Rattle.machine_model.specs.Readings.{is_partial}
use Rattle.machine_model.specs.State.{GatewayState, LiveOperation, LiveQuery, Listening, query, mutation, is_in_flight}
use Rattle.machine_model.specs.FollowUps.{all_joined}
use Rattle.machine_model.specs.Steps.{Step}

-- the turn of one live operation: what it is afterwards, what it is told, and the commands that follow
pub record Turn (O : Type 0) : Type 0 where
  pub live : LiveOperation O
  pub outs : List Out
  pub follow_ups : List Command

-- it isn't told anything
abbrev pub untold : {O : Type 0} → LiveOperation O → Turn O
untold live = record { live = live; outs = []; follow_ups = [] }

-- at its first reply or fault what it was given to follow is spent
abbrev pub told : {O : Type 0} → Meaning O → LiveOperation O → Out → Turn O
told meaning live output = record {
  live = record live { follow_ups = None };
  outs = output ∷ [];
  follow_ups = option_map_or (meaning.listener live.peer live.id) live.follow_ups [];
}

-- each live operation has its turn, in order of dispatch, and what follows joins the queue
abbrev pub all_turned : {O : Type 0} → (LiveOperation O → Turn O) → GatewayState O → Step O
all_turned turn state = record {
  outs = flat_map (λ live. (turn live).outs) state.live;
  state = record state {
    live = map (λ live. (turn live).live) state.live;
    jobs = all_joined state.jobs (flat_map (λ live. (turn live).follow_ups) state.live);
  };
}

-- no errors are told
abbrev pub no_errors : Value
no_errors = roll-Value (Value-F.List [])

-- a reply is stale exactly where a fetch is to be sent for the query, or is under way for its key (after Graphcache, `stale`)
abbrev pub is_stale : {O : Type 0} → GatewayState O → LiveQuery O → Bool
is_stale state live = live.due || is_in_flight state live.key

-- a query is told its last reading; a miss as null
abbrev pub reply : {O : Type 0} → GatewayState O → Value → LiveOperation O → LiveQuery O → Out
reply state errors live listening = out.Reply live.peer live.id listening.last.value errors (is_partial listening.last) (is_stale state listening)

-- an operation that listens so
abbrev pub listening_as : {O : Type 0} → LiveOperation O → LiveQuery O → LiveOperation O
listening_as live listening = record live { listens = query listening }

-- an operation is told why it has no data
abbrev pub faulted : {O : Type 0} → Meaning O → Ending → LiveOperation O → Turn O
faulted meaning ending live = told meaning live (out.Fault live.peer live.id ending)

-- the operation listens to the mutation of this ticket
abbrev pub listens_to : {O : Type 0} → ℕ → Listening O → Bool
listens_to ticket (query listening) = false
listens_to ticket (mutation other) = other == ticket

-- it has its turn where it listens to that mutation
abbrev pub turn_of_listener : {O : Type 0} → ℕ → (LiveOperation O → Turn O) → LiveOperation O → Listening O → Turn O
turn_of_listener ticket turn live (query listening) = untold live
turn_of_listener ticket turn live (mutation other) = if other == ticket then turn live else untold live

-- the listener of a mutation has its turn, where there is one; a mutation that was torn down has none
abbrev pub listener_turned : {O : Type 0} → ℕ → (LiveOperation O → Turn O) → GatewayState O → Step O
listener_turned ticket turn = all_turned (λ live. turn_of_listener ticket turn live live.listens)

-- the listener of a mutation isn't live any more
abbrev pub without_listener : {O : Type 0} → ℕ → GatewayState O → GatewayState O
without_listener ticket state = record state { live = filter (λ live. not (listens_to ticket live.listens)) state.live }
