-- What the machine takes from outside of itself: what operations mean under a schema and its rules. `O` is what a checked operation is, with its coerced variables; the machine never looks inside one.
use Rattle.std.specs.Prelude.{ℕ, List, Option, Result}
use Rattle.gql_model.specs.declared.executable.OperationKind.{OperationKind}
use Rattle.gql_value.specs.declared.value.Value.{Value}
use Rattle.cache_model.specs.declared.write.Write.{Write}
use Rattle.cache_model.specs.Maps.{CellMap}
use Rattle.send_rules.specs.declared.policy.ReadingKind.{ReadingKind}
use Rattle.queue_model.specs.declared.row.Row.{Row}
use Rattle.machine_model.specs.declared.command.Command.{Command}
use Rattle.machine_model.specs.declared.command.Dispatch.{Dispatch}
use Rattle.machine_model.specs.declared.output.Refusal.{Refusal}

-- two operations are one for the cache where these texts are equal: the canonical text of the client's document, the operation's name or an empty text, and the sorted text of the coerced variables (urql, operation keys)
pub record Identity : Type 0 where
  pub document : List ℕ
  pub operation : List ℕ
  pub variables : List ℕ

-- the texts of a request to the origin (GraphQL over HTTP, request parameters)
pub record Request : Type 0 where
  pub query : List ℕ
  pub operation : Option (List ℕ)
  pub variables : List ℕ

-- the places of cells: the key of an object and the key of a field
abbrev pub Places : Type 0
Places = List (List ℕ × List ℕ)

-- what a reading of the cache gives: how much it found, its data, which is null under a miss, and the places of the cells that it looked at (after urql's Graphcache, partial results)
pub record Reading : Type 0 where
  pub kind : ReadingKind
  pub value : Value
  pub visited : Places

-- what operations mean
pub record Meaning (O : Type 0) : Type 0 where
  -- the operation that a dispatch asks for, or the first refusal among E14, E6, E7, E16, E8, E17, E15 and E9, in the order in which documents are judged
  pub judged : Dispatch → Result O Refusal
  -- the mutation of a stored row, or why it isn't taken: E2 or E11 for its variables, and then as a dispatch is judged; anything but a mutation is E15
  pub stored : Row → Result O Refusal
  -- a query or a mutation; a subscription is never taken
  pub kind : O → OperationKind
  pub identity : O → Identity
  -- what is sent to the origin: the document with `__typename` put in
  pub request : O → Request
  -- the reading of the client's selection over a map of cells (GraphQL October 2021, 6.4)
  pub read : O → CellMap → Reading
  -- the writes of an answer with its errors, or the path of the first place where the answer doesn't fit (GraphQL October 2021, 6.4 and 7.1)
  pub written : O → Value → Value → Result (List Write) (List ℕ)
  -- an answer cut to the client's selection, in the order of asking
  pub projected : O → Value → Value
  -- the writes that the rules declare for an answer of a mutation, made behind the answer's own (Graphcache, updates)
  pub updates : O → Value → List Write
  -- the writes that the rules declare before a mutation's answer, where the mutation is optimistic (Graphcache, optimistic updates)
  pub guess : O → Option (List Write)
  -- what follows the first reply or fault of an operation: peer, id, and the commands that the client gave it for that; the program's listener gives these back
  pub listener : ℕ → ℕ → List Command → List Command
