-- The re-evaluation of live queries after a change: each is read again over the flattened map, and told where a client
-- sees a difference (after urql's Graphcache; when a query becomes due is this project's own).
use Rattle.std.specs.Prelude.{ℕ, ◌==◌, ◌&&◌, ◌||◌, Bool, true, false, not, if◌then◌else◌, Option, Some, None}
use Rattle.std.specs.Option.{option_map_or}
use Rattle.cache_model.specs.History.{flattened, is_shadowed}
use Rattle.send_rules.specs.declared.policy.Policy.{Policy}
use Rattle.send_rules.specs.declared.policy.Policy.TheVariants.{CacheOnly}
use Rattle.machine_model.specs.Operations.{Meaning, Reading}
use Rattle.machine_model.specs.Readings.{same_reading, is_hit, is_miss}
use Rattle.machine_model.specs.State.{GatewayState, LiveOperation, LiveQuery, Listening, query, mutation}
use Rattle.machine_model.specs.Steps.{Step, Answer}
use Rattle.machine_model.specs.Telling.{Turn, untold, told, all_turned, no_errors, reply, listening_as}

-- a query that is cache-only never becomes due by a re-evaluation
abbrev pub may_become_due : Policy → Bool
may_become_due CacheOnly = false
may_become_due _ = true

-- what a query reads now
abbrev pub reading_now : {O : Type 0} → Meaning O → GatewayState O → LiveQuery O → Reading
reading_now meaning state live = meaning.read live.operation (flattened state.history)

-- the answer is for the queries of this key
abbrev pub is_answer_for : ℕ → Option Answer → Bool
is_answer_for key answer = option_map_or (λ a. a.key == key) answer false

-- a client sees a difference between what the query read last and what it reads now
abbrev pub is_changed : {O : Type 0} → LiveQuery O → Reading → Bool
is_changed live now = not (same_reading now live.last)

-- A query that is answered is due again only where it isn't a hit and a later ticket has written over what it looks at,
-- so that its own answer couldn't be read.
abbrev pub is_due_after_answer : {O : Type 0} → GatewayState O → LiveQuery O → Reading → Answer → Bool
is_due_after_answer state live now answer =
    may_become_due live.policy && not (is_hit now) && is_shadowed now.visited state.history answer.ticket

-- any other query becomes due where its reading changed to one that isn't a hit, and stays due where it was
abbrev pub is_due_beside : {O : Type 0} → LiveQuery O → Reading → Bool
is_due_beside live now = live.due || (may_become_due live.policy && is_changed live now && not (is_hit now))

-- the query with what it reads now
abbrev pub reread : {O : Type 0} → LiveQuery O → Reading → Bool → LiveQuery O
reread live now due = record live { last = now; awaits = false; due = due }

-- a query of the answered key is told whatever it reads, with the errors of the answer
abbrev pub answered_turn : {O : Type 0} → Meaning O → GatewayState O → LiveOperation O → LiveQuery O → Reading → Answer → Turn O
answered_turn meaning state live listening now answer =
    let after = reread listening now (is_due_after_answer state listening now answer) in
    told meaning (listening_as live after) (reply state answer.errors live after)

-- any other query is told where its reading changed and isn't a miss
abbrev pub other_turn : {O : Type 0} → Meaning O → GatewayState O → LiveOperation O → LiveQuery O → Reading → Turn O
other_turn meaning state live listening now =
    let after = reread listening now (is_due_beside listening now) in
    if is_changed listening now && not (is_miss now)
    then told meaning (listening_as live after) (reply state no_errors live after)
    else untold (listening_as live after)

-- a query that awaits its own answer is passed over until that comes
abbrev pub unanswered_turn : {O : Type 0} → Meaning O → GatewayState O → LiveOperation O → LiveQuery O → Turn O
unanswered_turn meaning state live listening =
    if listening.awaits then untold live else other_turn meaning state live listening (reading_now meaning state listening)

-- a query of the answered key has its turn with the answer, and any other query has its turn without
abbrev pub query_turn : {O : Type 0} → Meaning O → GatewayState O → Option Answer → LiveOperation O → LiveQuery O → Turn O
query_turn meaning state None live listening = unanswered_turn meaning state live listening
query_turn meaning state (Some answer) live listening =
    if answer.key == listening.key
    then answered_turn meaning state live listening (reading_now meaning state listening) answer
    else unanswered_turn meaning state live listening

-- a mutation's listener waits for its own answer
abbrev pub turn_of : {O : Type 0} → Meaning O → GatewayState O → Option Answer → LiveOperation O → Listening O → Turn O
turn_of meaning state answer live (query listening) = query_turn meaning state answer live listening
turn_of meaning state answer live (mutation ticket) = untold live

-- every live query is read again, in order of dispatch, after a change that was perhaps the answer for a key
abbrev pub reevaluated : {O : Type 0} → Meaning O → Option Answer → GatewayState O → Step O
reevaluated meaning answer state = all_turned (λ live. turn_of meaning state answer live live.listens) state
