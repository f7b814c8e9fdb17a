-- The issue of due fetches: which live queries are sent to the origin, under which numbers (after urql's dedupExchange and Graphcache).
use Rattle.std.specs.Prelude.{ℕ, ◌+◌, ◌==◌, ◌&&◌, ◌||◌, Bool, true, false, not, if◌then◌else◌, List, [], ◌∷◌, ◌++◌, map, Option, Some}
use Rattle.cache_model.specs.History.{reserved, is_blocked}
use Rattle.send_rules.specs.declared.policy.Policy.{Policy}
use Rattle.send_rules.specs.declared.policy.Policy.TheVariants.{NetworkOnly}
use Rattle.machine_model.specs.declared.output.Out.{Out}
use Rattle.machine_model.specs.declared.output.Out.TheVariants as out
use Rattle.machine_model.specs.Operations.{Meaning}
use Rattle.machine_model.specs.State.{GatewayState, LiveOperation, LiveQuery, Listening, query, mutation, is_in_flight, next_ticket}
use Rattle.machine_model.specs.Steps.{Step, unmoved, given, and_then}
use Rattle.machine_model.specs.Telling.{listening_as}
use Rattle.machine_model.specs.Reevaluation.{reading_now}

-- the policy under which a dispatch always sends and never tells what the cache has (urql, request policies)
abbrev pub is_network_only : Policy → Bool
is_network_only NetworkOnly = true
is_network_only _ = false

-- what is to be sent to the origin for a fetch
abbrev pub fetch_out : {O : Type 0} → Meaning O → ℕ → O → Out
fetch_out meaning number operation =
    out.Fetch number (meaning.kind operation) (meaning.request operation).query (meaning.request operation).operation (meaning.request operation).variables

-- the next ticket is drawn; nothing is its content yet
abbrev pub with_ticket : {O : Type 0} → GatewayState O → GatewayState O
with_ticket state = record state { history = reserved state.history }

-- the next fetch number is drawn for a ticket, and the fetch is open
abbrev pub sent : {O : Type 0} → Meaning O → ℕ → Option ℕ → O → GatewayState O → Step O
sent meaning ticket key operation state =
    given (fetch_out meaning state.next_fetch operation)
    (record state {
      fetches = state.fetches ++ record { number = state.next_fetch; ticket = ticket; key = key; operation = operation } ∷ [];
      next_fetch = state.next_fetch + 1;
    })

-- a query of this key isn't due any more
abbrev pub not_due : {O : Type 0} → ℕ → LiveOperation O → Listening O → LiveOperation O
not_due key live (query listening) = if listening.key == key then listening_as live (record listening { due = false }) else live
not_due key live (mutation ticket) = live

-- no query of this key is due any more
abbrev pub none_due : {O : Type 0} → ℕ → GatewayState O → GatewayState O
none_due key state = record state { live = map (λ live. not_due key live live.listens) state.live }

-- A due query may be sent where no fetch for its key is open, and where no optimistic write covers what it looks at: its
-- answer might be older than what is shown. Network-only queries are sent all the same.
abbrev pub may_be_sent : {O : Type 0} → Meaning O → GatewayState O → LiveQuery O → Bool
may_be_sent meaning state listening =
    listening.due && not (is_in_flight state listening.key)
    && (is_network_only listening.policy || not (is_blocked (reading_now meaning state listening).visited state.history))

-- a query is sent under the next ticket and the next fetch number
abbrev pub query_sent : {O : Type 0} → Meaning O → LiveQuery O → GatewayState O → Step O
query_sent meaning listening state =
    sent meaning (next_ticket state) (Some listening.key) listening.operation (none_due listening.key (with_ticket state))

-- a live query is sent where it is due and may be; nothing is sent for a mutation, whose dispatch has sent it
abbrev pub issued_for : {O : Type 0} → Meaning O → Listening O → GatewayState O → Step O
issued_for meaning (query listening) state = if may_be_sent meaning state listening then query_sent meaning listening state else unmoved state
issued_for meaning (mutation ticket) state = unmoved state

-- these operations in order; of queries with one key the first is sent, since its fetch is open then
abbrev pub issued_over : {O : Type 0} → Meaning O → List (LiveOperation O) → GatewayState O → Step O
issued_over meaning [] state = unmoved state
issued_over meaning (live ∷ more) state = and_then (issued_for meaning live.listens state) (issued_over meaning more)

-- each live query that is due and may be sent, in order of dispatch
abbrev pub issued : {O : Type 0} → Meaning O → GatewayState O → Step O
issued meaning state = issued_over meaning state.live state
