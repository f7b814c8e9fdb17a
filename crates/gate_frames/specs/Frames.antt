-- What a line of input comes to: a command, `quit`, or the first refusal.
use Rattle.std.specs.Prelude.{ℕ, nat_lt, if◌then◌else◌, List, length, codes, Option, Some, None, option_map}
use Rattle.std.specs.declared.result.Result.TheVariants.{Ok, Err}
use Rattle.serde_json.specs.Data.{Data}
use Rattle.serde_json.specs.Find.{as_str, get}
use Rattle.gql_value.specs.declared.outcome.Fault.TheVariants.{F6}
use Rattle.gql_value.specs.declared.outcome.Fault.{Fault}
use Rattle.gql_value.specs.declared.outcome.Outcome.{Outcome}
use Rattle.gql_value.specs.declared.outcome.Outcome.TheVariants as outcome
use Rattle.gql_value.specs.Outcome.{Meaning, bad, outcome_from, json_of, status_fault, outcome_of_data, outcome_meaning}
use Rattle.gql_value.specs.Members.{number_in}
use Rattle.machine_model.specs.declared.command.Command.TheVariants as command
use Rattle.machine_model.specs.declared.command.Dispatch.{Dispatch}
use Rattle.machine_model.specs.declared.output.Out.TheVariants as out
use Rattle.machine_model.specs.declared.output.Refusal.{Refusal}
use Rattle.machine_model.specs.declared.output.Refusal.TheVariants.{E1, E2, E3, E11}
use Rattle.gate_frames.specs.declared.framed.Framed.{Framed}
use Rattle.gate_frames.specs.declared.framed.Framed.TheVariants.{Run, Quit, Refused}
use Rattle.gate_frames.specs.declared.kind.FrameKind.{FrameKind}
use Rattle.gate_frames.specs.declared.kind.FrameKind.TheVariants as kind
use Rattle.gate_frames.specs.Members.{status_of}
use Rattle.gate_frames.specs.Dispatches.{Read, kind_of, dispatch_misfit, dispatch_read}

-- a line that changes nothing
abbrev pub refused : ℕ → ℕ → Refusal → Framed
refused peer line refusal = Refused (out.Refused peer line refusal)

-- a member is missing or of the wrong form
abbrev pub misfit : ℕ → ℕ → List ℕ → Framed
misfit peer line member = refused peer line (E3 member)

-- a dispatch whose members have their forms runs where the numbers in all its variables are whole
abbrev pub dispatch_run : ℕ → ℕ → Read Dispatch → Framed
dispatch_run peer line (Ok dispatch) = Run (command.Dispatch dispatch)
dispatch_run peer line (Err path) = refused peer line (E11 path)

-- the members are tested before the numbers in variables
abbrev pub dispatch_framed : ℕ → ℕ → Option (List ℕ) → Read Dispatch → Framed
dispatch_framed peer line (Some member) dispatch = misfit peer line member
dispatch_framed peer line None dispatch = dispatch_run peer line dispatch

-- a teardown of the operation with this `id`, which must be there
abbrev pub teardown_framed : ℕ → ℕ → Option ℕ → Framed
teardown_framed peer line None = misfit peer line (codes "id")
teardown_framed peer line (Some id) = Run (command.Teardown peer id line)

-- the origin can't be reached
abbrev pub failure_framed : ℕ → ℕ → Option ℕ → Framed
failure_framed peer line None = misfit peer line (codes "fetch")
failure_framed peer line (Some fetch) = Run (command.Respond peer fetch line (outcome.Bad F6))

-- a body that is JSON already, beside the fault of its status
abbrev pub body_beside : Option Fault → Data → Meaning
body_beside (Some fault) body = bad fault
body_beside None body = outcome_of_data body

-- what came of a fetch: JSON as `body`, or the bytes of the origin's body as `text`, and not both
abbrev pub outcome_given : ℕ → Option Data → Option Data → Option Outcome
outcome_given status None None = None
outcome_given status (Some body) None = Some (outcome_from (body_beside (status_fault status) body))
outcome_given status None (Some text) = option_map (λ bytes. outcome_from (outcome_meaning status bytes)) (as_str text)
outcome_given status (Some body) (Some text) = None

-- the response with this outcome, where `body` and `text` give one; else `body` is the member at fault
abbrev pub outcome_framed : ℕ → ℕ → ℕ → Option Outcome → Framed
outcome_framed peer line fetch None = misfit peer line (codes "body")
outcome_framed peer line fetch (Some outcome) = Run (command.Respond peer fetch line outcome)

-- the members of a response are tested in this order
abbrev pub response_framed : ℕ → ℕ → Data → Option ℕ → Option ℕ → Framed
response_framed peer line frame None status = misfit peer line (codes "fetch")
response_framed peer line frame (Some fetch) None = misfit peer line (codes "status")
response_framed peer line frame (Some fetch) (Some status) =
    outcome_framed peer line fetch (outcome_given status (get (codes "body") frame) (get (codes "text") frame))

-- what a frame of this kind comes to, by its own members
abbrev pub kind_framed : ℕ → ℕ → Data → FrameKind → Framed
kind_framed peer line frame kind.Dispatch = dispatch_framed peer line (dispatch_misfit frame) (dispatch_read peer line frame)
kind_framed peer line frame kind.Teardown = teardown_framed peer line (number_in (codes "id") frame)
kind_framed peer line frame kind.Response = response_framed peer line frame (number_in (codes "fetch") frame) (status_of (get (codes "status") frame))
kind_framed peer line frame kind.Failure = failure_framed peer line (number_in (codes "fetch") frame)
kind_framed peer line frame kind.Online = Run command.Online
kind_framed peer line frame kind.Layers = Run (command.Layers peer)
kind_framed peer line frame kind.Flat = Run (command.Flat peer)
kind_framed peer line frame kind.Quit = Quit

-- what JSON comes to by the kind of frame that it names; else `do` is the member at fault
abbrev pub frame_framed : ℕ → ℕ → Data → Option FrameKind → Framed
frame_framed peer line frame None = misfit peer line (codes "do")
frame_framed peer line frame (Some kind) = kind_framed peer line frame kind

-- what a line comes to by the JSON that it is; E2 where it is none
abbrev pub json_framed : ℕ → ℕ → Option Data → Framed
json_framed peer line None = refused peer line E2
json_framed peer line (Some frame) = frame_framed peer line frame (kind_of frame)

-- a line has at most so many bytes
abbrev pub longest_line : ℕ
longest_line = 8388608

-- what a line of a client comes to
abbrev pub line_framed : ℕ → ℕ → List ℕ → Framed
line_framed peer line text = if nat_lt longest_line (length text) then refused peer line E1 else json_framed peer line (json_of text)
