-- What is done at once: what is given out, and the state after.
use Rattle.std.specs.Prelude.{ℕ, List, [], ◌∷◌, ◌++◌, Option}
use Rattle.gql_value.specs.declared.value.Value.{Value}
use Rattle.cache_model.specs.declared.write.Write.{Write}
use Rattle.cache_model.specs.declared.kind.Kind.TheVariants.{Empty, Final}
use Rattle.cache_model.specs.History.{filled, finished}
use Rattle.machine_model.specs.declared.output.Out.{Out}
use Rattle.machine_model.specs.declared.output.Out.TheVariants as out
use Rattle.machine_model.specs.declared.output.Refusal.{Refusal}
use Rattle.machine_model.specs.State.{GatewayState}

-- what is given out, in order, and the state after
pub record Step (O : Type 0) : Type 0 where
  pub outs : List Out
  pub state : GatewayState O

-- nothing is done
abbrev pub unmoved : {O : Type 0} → GatewayState O → Step O
unmoved state = record { outs = []; state = state }

-- one thing is given out
abbrev pub given : {O : Type 0} → Out → GatewayState O → Step O
given output state = record { outs = output ∷ []; state = state }

-- one thing after another
abbrev pub and_then : {O : Type 0} → Step O → (GatewayState O → Step O) → Step O
and_then step next = record { outs = step.outs ++ (next step.state).outs; state = (next step.state).state }

-- a refused command changes nothing
abbrev pub refused : {O : Type 0} → ℕ → ℕ → Refusal → GatewayState O → Step O
refused peer line refusal = given (out.Refused peer line refusal)

-- a ticket has its final writes, and its content never changes again
abbrev pub settled_with : {O : Type 0} → ℕ → List Write → GatewayState O → GatewayState O
settled_with ticket writes state = record state { history = finished (filled state.history ticket writes Final) ticket }

-- a ticket is given up: its content is empty, and never changes again
abbrev pub emptied : {O : Type 0} → ℕ → GatewayState O → GatewayState O
emptied ticket state = record state { history = finished (filled state.history ticket [] Empty) ticket }

-- the answer by which a query is told: its key, the ticket that it fills, and its errors
pub record Answer : Type 0 where
  pub key : ℕ
  pub ticket : ℕ
  pub errors : Value

-- What follows a change. Nothing; the issue of due fetches; or the re-evaluation of live queries, after the content of
-- a ticket changed and perhaps by an answer for a key, and then the issue of due fetches.
pub data Sequel : Type 0 where
  stops : Sequel
  issues : Sequel
  reevaluates : Option ℕ → Option Answer → Sequel

-- a change by a command, before what follows it
pub record Change (O : Type 0) : Type 0 where
  pub outs : List Out
  pub state : GatewayState O
  pub sequel : Sequel

-- a step after which something follows
abbrev pub followed_by : {O : Type 0} → Step O → Sequel → Change O
followed_by step sequel = record { outs = step.outs; state = step.state; sequel = sequel }

-- the step that a change is by itself
abbrev pub made : {O : Type 0} → Change O → Step O
made change = record { outs = change.outs; state = change.state }
