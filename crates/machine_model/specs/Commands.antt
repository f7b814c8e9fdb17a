-- What one command does: the step of the machine.
use Rattle.std.specs.Prelude.{ℕ, Bool, nat_le, if◌then◌else◌, length, Result}
use Rattle.std.specs.declared.result.Result.TheVariants.{Ok, Err}
use Rattle.gql_model.specs.declared.executable.OperationKind.{OperationKind}
use Rattle.gql_model.specs.declared.executable.OperationKind.TheVariants as kind
use Rattle.machine_model.specs.declared.command.Command.{Command, out-Command}
use Rattle.machine_model.specs.declared.command.Command.TheOpen.{Command-F, Dispatch-F}
use Rattle.machine_model.specs.declared.command.Dispatch.{Dispatch, out-Dispatch}
use Rattle.machine_model.specs.declared.output.Refusal.{Refusal}
use Rattle.machine_model.specs.declared.output.Refusal.TheVariants as refusal
use Rattle.send_rules.specs.declared.policy.Policy.{Policy}
use Rattle.machine_model.specs.Operations.{Meaning}
use Rattle.machine_model.specs.State.{GatewayState, Job, is_live}
use Rattle.machine_model.specs.Steps.{Step, Change, followed_by, stops, refused}
use Rattle.machine_model.specs.Sequels.{concluded}
use Rattle.machine_model.specs.Queries.{Sender, query_dispatched}
use Rattle.machine_model.specs.Mutations.{mutation_dispatched}
use Rattle.machine_model.specs.Teardowns.{teardown, gone}
use Rattle.machine_model.specs.Responses.{response}
use Rattle.machine_model.specs.Rows.{online}
use Rattle.machine_model.specs.Inspection.{layers, flat}

-- how many operations may be live, whoever dispatched them
abbrev pub most_live : ℕ
most_live = 4096

-- a frame that is refused: its client is told the refusal with the line's number, nothing changes, and nothing follows
abbrev pub refused_frame : {O : Type 0} → ℕ → ℕ → Refusal → GatewayState O → Change O
refused_frame peer line refusal state = followed_by (refused peer line refusal state) stops

-- an operation that was judged well is dispatched: a query by its policy, a mutation whatever that is;
-- a subscription never comes this far (E15)
abbrev pub taken : {O : Type 0} → Meaning O → Sender → Policy → O → GatewayState O → OperationKind → Change O
taken meaning sender policy operation state kind.Query = query_dispatched meaning sender operation policy state
taken meaning sender policy operation state kind.Mutation = mutation_dispatched meaning sender operation state
taken meaning sender policy operation state kind.Subscription = mutation_dispatched meaning sender operation state

-- the dispatch is refused as it was judged, or its operation is taken
abbrev pub taken_or_refused : {O : Type 0} → Meaning O → Sender → ℕ → Policy → GatewayState O → Result O Refusal → Change O
taken_or_refused meaning sender line policy state (Err refusal) = refused_frame sender.peer line refusal state
taken_or_refused meaning sender line policy state (Ok operation) = taken meaning sender policy operation state (meaning.kind operation)

-- who dispatches, as the frame says: the client, its number for the operation, and the commands to follow
abbrev pub sender_of : Dispatch-F Command Dispatch → Sender
sender_of dispatch = record { peer = dispatch.peer; id = dispatch.id; follow_ups = dispatch.then }

-- a dispatch is refused where the client has an operation of that number, where too many operations are live, or as its
-- document is judged, in this order
abbrev pub dispatched : {O : Type 0} → Meaning O → Dispatch → Dispatch-F Command Dispatch → GatewayState O → Change O
dispatched meaning dispatch parts state =
    if is_live state parts.peer parts.id then refused_frame parts.peer parts.line refusal.E4 state
    else (if nat_le most_live (length state.live) then refused_frame parts.peer parts.line refusal.E12 state
    else taken_or_refused meaning (sender_of parts) parts.line parts.policy state (meaning.judged dispatch))

-- the step of a command, which has left the queue
abbrev pub step_of : {O : Type 0} → Meaning O → Bool → GatewayState O → Command-F Command Dispatch → Step O
step_of meaning took_out state (Command-F.Dispatch dispatch) = concluded meaning (dispatched meaning dispatch (out-Dispatch dispatch) state)
step_of meaning took_out state (Command-F.Teardown peer id line) = concluded meaning (teardown peer id line took_out state)
step_of meaning took_out state (Command-F.Respond peer fetch line outcome) = concluded meaning (response meaning peer fetch line outcome state)
step_of meaning took_out state Command-F.Online = online meaning state
step_of meaning took_out state (Command-F.Layers peer) = layers peer state
step_of meaning took_out state (Command-F.Flat peer) = flat peer state
step_of meaning took_out state (Command-F.Gone peer) = gone meaning peer state

-- the step of a job: its command's, and for a teardown by whether it took dispatches out of the queue
abbrev pub command_step : {O : Type 0} → Meaning O → Job → GatewayState O → Step O
command_step meaning job state = step_of meaning job.took_out state (out-Command job.command)
