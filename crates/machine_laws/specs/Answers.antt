-- The final answer of a mutation.
use Rattle.std.specs.Prelude.{◌≡◌, ℕ, ◌-◌, ◌<◌, ◌==◌, ◌&&◌, Bool, true, false, find, length, Some, None, is_none}
use Rattle.std.specs.List.{list_any}
use Rattle.gql_value.specs.declared.outcome.Fault.{Fault}
use Rattle.gql_value.specs.declared.outcome.Fault.TheVariants.{F1, F2, F3, F4, F5, F6, F7, F8}
use Rattle.gql_value.specs.declared.outcome.Outcome.{Outcome}
use Rattle.gql_value.specs.declared.outcome.Outcome.TheVariants as outcome
use Rattle.cache_model.specs.History.{Content}
use Rattle.machine_model.specs.Operations.{Meaning}
use Rattle.machine_model.specs.State.{GatewayState, OpenFetch, PendingMutation}
use Rattle.machine_model.specs.Sequels.{concluded}
use Rattle.machine_model.specs.Teardowns.{closed}
use Rattle.machine_model.specs.Responses.{without_mutation, pending_of, response}
use Rattle.machine_model.specs.Laws.{is_fetch_at, is_mutation_at, IsClosed}

-- F6, by which the origin wasn't reached, ends a mutation that is neither optimistic nor in a row; every other fault ends any
abbrev pub fault_ends : {O : Type 0} → Meaning O → PendingMutation O → Fault → Bool
fault_ends meaning pending F1 = true
fault_ends meaning pending F2 = true
fault_ends meaning pending (F3 path) = true
fault_ends meaning pending (F4 path) = true
fault_ends meaning pending (F5 status) = true
fault_ends meaning pending F6 = is_none pending.row && is_none (meaning.guess pending.operation)
fault_ends meaning pending F7 = true
fault_ends meaning pending F8 = true

-- what came is the last that the mutation gets: an answer, whether it fits or not, or a fault that ends it
abbrev pub ends : {O : Type 0} → Meaning O → PendingMutation O → Outcome → Bool
ends meaning pending (outcome.Body answer errors) = true
ends meaning pending (outcome.Bad fault) = fault_ends meaning pending fault

-- the fetch is the open one of its number and sends this mutation, whose ticket was drawn; no other fetch and no other mutation is for that
pub record IsAloneFor {O : Type 0} (fetch : OpenFetch O) (pending : PendingMutation O) (state : GatewayState O) : Type 0 where
  pub kind : fetch.key ≡ None
  pub found : find (λ other. other.number == fetch.number) state.fetches ≡ Some fetch
  pub waits : pending_of fetch.ticket state ≡ Some pending
  pub drawn : pending.ticket - 1 < length state.history
  pub unsent : list_any (is_fetch_at (pending.ticket - 1)) (closed fetch.number state).fetches ≡ false
  pub single : list_any (is_mutation_at (pending.ticket - 1)) (without_mutation pending.ticket state).mutations ≡ false

-- after the last that it gets the ticket of a mutation is finished and closed
abbrev pub FinalAnswersClose : Type 0 → Type 0
FinalAnswersClose O = (meaning : Meaning O) (state : GatewayState O) (fetch : OpenFetch O) (pending : PendingMutation O) (peer line : ℕ) (outcome : Outcome)
    → IsAloneFor fetch pending state → ends meaning pending outcome ≡ true
    → (content : Content) × (content.finished ≡ true) × IsClosed (pending.ticket - 1) content (concluded meaning (response meaning peer fetch.number line outcome state)).state
