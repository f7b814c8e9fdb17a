-- The state of the gateway between two commands.
use Rattle.std.specs.Prelude.{ℕ, suc, ◌==◌, ◌&&◌, Bool, false, List, [], Option, length}
use Rattle.std.specs.List.{list_any}
use Rattle.std.specs.Option.{option_map_or}
use Rattle.cache_model.specs.History.{History}
use Rattle.send_rules.specs.declared.policy.Policy.{Policy}
use Rattle.queue_model.specs.Queue.{MutationQueue}
use Rattle.machine_model.specs.declared.command.Command.{Command}
use Rattle.machine_model.specs.Operations.{Identity, Reading}

-- A query that a client listens to. Its key is the number of its identity, so queries with one key are one query for the cache.
-- It awaits where nothing is to be told before its own answer, and it is due where a fetch is to be sent for it.
pub record LiveQuery (O : Type 0) : Type 0 where
  pub operation : O
  pub key : ℕ
  pub policy : Policy
  pub last : Reading
  pub awaits : Bool
  pub due : Bool

-- what a client listens to: a query, or the mutation of a ticket
pub data Listening (O : Type 0) : Type 0 where
  query : LiveQuery O → Listening O
  mutation : ℕ → Listening O

-- an operation that a client gave a number and hasn't torn down, with the commands that follow its first reply or fault until that comes (urql, operations and teardowns)
pub record LiveOperation (O : Type 0) : Type 0 where
  pub peer : ℕ
  pub id : ℕ
  pub follow_ups : Option (List Command)
  pub listens : Listening O

-- a fetch that was sent and isn't answered: its number, the ticket that its answer fills, and its key where it is for a query
pub record OpenFetch (O : Type 0) : Type 0 where
  pub number : ℕ
  pub ticket : ℕ
  pub key : Option ℕ
  pub operation : O

-- a mutation without its final answer: its ticket, which it keeps over all attempts, and its row where it is queued
pub record PendingMutation (O : Type 0) : Type 0 where
  pub ticket : ℕ
  pub row : Option ℕ
  pub operation : O

-- a command that waits its turn; of a teardown, whether it took dispatches out of the queue when it joined
pub record Job : Type 0 where
  pub command : Command
  pub took_out : Bool

-- The live operations are in order of dispatch, the fetches and mutations in order of sending. A ticket is a place of the
-- history, counted from 1; the number of an identity is its place in the list, counted from 0.
pub record GatewayState (O : Type 0) : Type 0 where
  pub live : List (LiveOperation O)
  pub history : History
  pub fetches : List (OpenFetch O)
  pub mutations : List (PendingMutation O)
  pub rows : MutationQueue
  pub jobs : List Job
  pub next_fetch : ℕ
  pub identities : List Identity

-- the state before the first command, with the queue that was found and nothing of it sent yet
abbrev pub first_state : {O : Type 0} → MutationQueue → GatewayState O
first_state rows = record { live = []; history = []; fetches = []; mutations = []; rows = rows; jobs = []; next_fetch = 1; identities = [] }

-- the operation is the one that this client gave this number
abbrev pub is_named : {O : Type 0} → ℕ → ℕ → LiveOperation O → Bool
is_named peer id live = live.peer == peer && live.id == id

-- the client has an operation of this number
abbrev pub is_live : {O : Type 0} → GatewayState O → ℕ → ℕ → Bool
is_live state peer id = list_any (is_named peer id) state.live

-- the fetch is for the queries of this key
abbrev pub is_for_key : {O : Type 0} → ℕ → OpenFetch O → Bool
is_for_key key fetch = option_map_or (λ other. other == key) fetch.key false

-- a fetch for this key is open
abbrev pub is_in_flight : {O : Type 0} → GatewayState O → ℕ → Bool
is_in_flight state key = list_any (is_for_key key) state.fetches

-- a fetch for this ticket is open
abbrev pub is_sent : {O : Type 0} → GatewayState O → ℕ → Bool
is_sent state ticket = list_any (λ fetch. fetch.ticket == ticket) state.fetches

-- the next ticket
abbrev pub next_ticket : {O : Type 0} → GatewayState O → ℕ
next_ticket state = suc (length state.history)
