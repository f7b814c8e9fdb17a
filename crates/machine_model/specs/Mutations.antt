-- The dispatch of a mutation: it is sent at once, and its guess is shown until its answer comes (Graphcache, optimistic updates).
use Rattle.std.specs.Prelude.{ℕ, List, [], ◌∷◌, ◌++◌, Option, Some, None}
use Rattle.cache_model.specs.declared.write.Write.{Write}
use Rattle.cache_model.specs.declared.kind.Kind.TheVariants.{Optimistic}
use Rattle.cache_model.specs.History.{filled}
use Rattle.machine_model.specs.Operations.{Meaning}
use Rattle.machine_model.specs.State.{GatewayState, PendingMutation, mutation, next_ticket}
use Rattle.machine_model.specs.Steps.{Step, Change, followed_by, reevaluates}
use Rattle.machine_model.specs.Issue.{with_ticket, sent}
use Rattle.machine_model.specs.Queries.{Sender, live_as, with_live}

-- the content of a ticket is a guess, where there is one
abbrev pub guessed : {O : Type 0} → ℕ → Option (List Write) → GatewayState O → GatewayState O
guessed ticket None state = state
guessed ticket (Some writes) state = record state { history = filled state.history ticket writes Optimistic }

-- one more mutation without its final answer
abbrev pub with_mutation : {O : Type 0} → PendingMutation O → GatewayState O → GatewayState O
with_mutation pending state = record state { mutations = state.mutations ++ pending ∷ [] }

-- a mutation draws the next ticket, which it keeps over all attempts
abbrev pub begun : {O : Type 0} → Meaning O → O → Option ℕ → GatewayState O → GatewayState O
begun meaning operation row state =
    with_mutation (record { ticket = next_ticket state; row = row; operation = operation })
    (guessed (next_ticket state) (meaning.guess operation) (with_ticket state))

-- and is sent under the next fetch number
abbrev pub begun_and_sent : {O : Type 0} → Meaning O → O → Option ℕ → GatewayState O → Step O
begun_and_sent meaning operation row state = sent meaning (next_ticket state) None operation (begun meaning operation row state)

-- a mutation joins the live operations and is sent, whatever its policy; then live queries are re-evaluated
abbrev pub mutation_dispatched : {O : Type 0} → Meaning O → Sender → O → GatewayState O → Change O
mutation_dispatched meaning sender operation state =
    followed_by
    (begun_and_sent meaning operation None (with_live (live_as sender (mutation (next_ticket state))) state))
    (reevaluates (Some (next_ticket state)) None)
