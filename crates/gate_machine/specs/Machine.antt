-- The machine: its state, and what one line of input does. A response's writes replace its own
-- operation's present result, wherever that stands, so answers may come in any order.
use Rattle.std.specs.Prelude.{ℕ, ◌+◌, ◌-◌, ◌==◌, Bool, not, if◌then◌else◌, List, [], ◌∷◌, ◌++◌, codes, length, filter, find, slice_set, Option, Some, None, unwrap_or, Result, Ok, Err}
use Rattle.std.specs.List.{list_any}
use Rattle.serde_json.specs.Data.{Data}
use Rattle.gql_value.specs.declared.value.Value.{Value}
use Rattle.schema_model.specs.Tables.{tabled}
use Rattle.machine_model.specs.declared.output.Refusal.{Refusal}
use Rattle.machine_model.specs.declared.output.Refusal.TheVariants.{E2, E3}
use Rattle.frame_reading.specs.Frames.{Dispatch, Frame, dispatch, response, json_of, frame_of}
use Rattle.judged_dispatch.specs.declared.kinds.Kinds.TheVariants.{Queries}
use Rattle.judged_dispatch.specs.declared.service.Service.{Service}
use Rattle.judged_dispatch.specs.Judged.{Accepted, judged}
use Rattle.plain_queries.specs.declared.selection.Selection.{Selection}
use Rattle.plain_queries.specs.Plain.{plain_query_of}
use Rattle.plain_queries.specs.Sent.{sent_text_of}
use Rattle.gate_machine.specs.declared.cell.Write.{Write}
use Rattle.gate_machine.specs.declared.operation.OpenOperation.{OpenOperation}
use Rattle.gate_machine.specs.Cells.{History, flattened}
use Rattle.gate_machine.specs.Readings.{query_reading, null_value}
use Rattle.gate_machine.specs.Answers.{body_written}
use Rattle.gate_machine.specs.Outputs.{reply_line, fetch_line, refused_line}

-- what documents are judged under, which stays as it is; the operations that wait for their responses, in order of sending; and the present results
pub record GatewayState : Type 0 where
  pub service : Service
  pub waiting : List OpenOperation
  pub history : History

-- nothing was sent yet
abbrev pub empty_state : Service → GatewayState
empty_state service = record { service = service; waiting = []; history = [] }

-- what is written, and the state after
pub record Step : Type 0 where
  pub text : List ℕ
  pub state : GatewayState

-- a refused line changes nothing
abbrev pub refused : ℕ → Refusal → GatewayState → Step
refused line refusal state = record { text = refused_line line refusal; state = state }

-- E3 with `do`: the frame is one that can't be taken in this state
abbrev pub no_frame : Refusal
no_frame = E3 (codes "do")

-- An operation that is sent draws the next number, and its result is empty until its response comes.
-- Its text asks `__typename` of each object too.
abbrev pub sent : ℕ → List (List ℕ × Selection) → GatewayState → Step
sent id query state =
    let fetch = length state.history + 1 in
    record {
      text = fetch_line fetch (sent_text_of query);
      state = record { service = state.service; waiting = state.waiting ++ record { id = id; fetch = fetch; query = query } ∷ []; history = state.history ++ [] ∷ [] };
    }

-- a hit is answered at once, and anything else is sent
abbrev pub answered_or_sent : ℕ → List (List ℕ × Selection) → GatewayState → Option Value → Step
answered_or_sent id query state (Some answer) = record { text = reply_line id answer; state = state }
answered_or_sent id query state None = sent id query state

-- a plain query is read over the flattened map of all present results
abbrev pub query_taken : ℕ → List (List ℕ × Selection) → GatewayState → Step
query_taken id query state = answered_or_sent id query state (query_reading (flattened state.history) query)

-- an operation whose document isn't a plain query isn't taken yet
abbrev pub query_dispatched : ℕ → ℕ → GatewayState → Option (List (List ℕ × Selection)) → Step
query_dispatched line id state None = refused line (E3 (codes "query")) state
query_dispatched line id state (Some query) = query_taken id query state

-- an operation that is accepted is answered or sent, by its document alone: a plain query has no variables
abbrev pub operation_dispatched : ℕ → ℕ → GatewayState → Result Accepted Refusal → Step
operation_dispatched line id state (Err refusal) = refused line refusal state
operation_dispatched line id state (Ok accepted) = query_dispatched line id state (plain_query_of accepted.document)

-- Only queries are taken as yet. Members of an object have distinct names, so their table has all of them.
abbrev pub dispatch_judged : ℕ → Dispatch → GatewayState → Step
dispatch_judged line asked state = operation_dispatched line asked.id state (judged Queries state.service asked.query asked.operation (tabled asked.variables))

-- an operation still waits under this id
abbrev pub is_waiting : ℕ → GatewayState → Bool
is_waiting id state = list_any (λ operation. operation.id == id) state.waiting

-- a dispatch is refused while an operation waits under its id, and is judged otherwise
abbrev pub dispatched : ℕ → Dispatch → GatewayState → Step
dispatched line asked state = if is_waiting asked.id state then refused line no_frame state else dispatch_judged line asked state

-- The writes become the present result of their operation, wherever that stands.
abbrev pub completed_history : OpenOperation → List Write → History → History
completed_history operation writes history = slice_set history (operation.fetch - 1) writes

-- The operation is told what it reads now: null where that is no hit.
abbrev pub completion_text : OpenOperation → History → List ℕ
completion_text operation history = reply_line operation.id (unwrap_or (query_reading (flattened history) operation.query) null_value)

-- the operation ends
abbrev pub completed : OpenOperation → List Write → GatewayState → Step
completed operation writes state =
    let history = completed_history operation writes state.history in
    record {
      text = completion_text operation history;
      state = record { service = state.service; waiting = filter (λ other. not (other.fetch == operation.fetch)) state.waiting; history = history };
    }

-- an answer of the form that was asked completes its operation; any other is refused
abbrev pub answer_written : ℕ → OpenOperation → GatewayState → Option (List Write) → Step
answer_written line operation state None = refused line no_frame state
answer_written line operation state (Some writes) = completed operation writes state

-- a body is taken by the form that its waiting operation asked; without such an operation the line is refused
abbrev pub response_taken : ℕ → Data → GatewayState → Option OpenOperation → Step
response_taken line body state None = refused line no_frame state
response_taken line body state (Some operation) = answer_written line operation state (body_written operation.query body)

-- a response is for the operation that waits under its number
abbrev pub responded : ℕ → ℕ → Data → GatewayState → Step
responded line fetch body state = response_taken line body state (find (λ operation. operation.fetch == fetch) state.waiting)

-- a frame is taken as the dispatch or the response that it is; JSON that is neither is refused as its reading says
abbrev pub frame_taken : ℕ → GatewayState → Result Frame Refusal → Step
frame_taken line state (Err refusal) = refused line refusal state
frame_taken line state (Ok (dispatch asked)) = dispatched line asked state
frame_taken line state (Ok (response fetch body)) = responded line fetch body state

-- the frame that JSON is; E2 where the line isn't JSON
abbrev pub json_taken : ℕ → GatewayState → Option Data → Step
json_taken line state None = refused line E2 state
json_taken line state (Some value) = frame_taken line state (frame_of value)

-- what a line does, which is counted from 1
unfoldable pub line_taken : ℕ → List ℕ → GatewayState → Step
line_taken line bytes state = json_taken line state (json_of bytes)
