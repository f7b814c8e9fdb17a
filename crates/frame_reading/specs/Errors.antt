-- What an error of the gate's parts tells, and what a frame as the code holds it stands for.
use Rattle.std.specs.Prelude.{◌≡◌, Result, Err, ⊤}
use Rattle.serde_json.specs.View.{view}
use Rattle.machine_model.specs.declared.output.Refusal.{Refusal}
use Rattle.frame_reading.specs.declared.error.FrameError.{FrameError}
use Rattle.frame_reading.specs.declared.error.FrameError.TheVariants as error
use Rattle.frame_reading.specs.declared.frame.Dispatch.{Dispatch}
use Rattle.frame_reading.specs.declared.frame.Frame.{Frame}
use Rattle.frame_reading.specs.declared.frame.Frame.TheVariants as frame
use Rattle.frame_reading.specs.Frames as spec

-- an error that tells the refusal, or that memory ran out
abbrev pub IsFrameError : {X : Type 0} → Result X Refusal → FrameError → Type 0
IsFrameError expected error.Memory = ⊤
IsFrameError expected (error.Refused refusal) = expected ≡ Err refusal

-- the same dispatch
abbrev pub dispatch_meant : Dispatch → spec.Dispatch
dispatch_meant d = record { id = d.id; query = d.query.now; operation = d.operation; variables = d.variables }

-- the same frame
abbrev pub frame_meant : Frame → spec.Frame
frame_meant (frame.Dispatch d) = spec.dispatch (dispatch_meant d)
frame_meant (frame.Response fetch body) = spec.response fetch (view body.now)
