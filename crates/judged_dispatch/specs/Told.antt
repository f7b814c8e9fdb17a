-- What a judged operation stands for, and what the error of a refused one tells.
use Rattle.std.specs.Prelude.{◌≡◌, Option, Some, ⊤}
use Rattle.std.specs.Option.{option_map}
use Rattle.check_model.specs.declared.refusal.Refusal.{Refusal as Ground}
use Rattle.frame_reading.specs.declared.error.FrameError.{FrameError}
use Rattle.frame_reading.specs.declared.error.FrameError.TheVariants as error
use Rattle.judged_dispatch.specs.declared.judged.Judged.{Judged}
use Rattle.judged_dispatch.specs.Judged.{Accepted, told}

-- the document and the place of a checked operation, with the values of its variables
abbrev pub accepted_by : Judged → Accepted
accepted_by judged = record { document = judged.checked.document; place = judged.checked.place; variables = judged.variables }

-- an error that tells the reason that was found, or that memory ran out
abbrev pub IsRefusalTold : Option Ground → FrameError → Type 0
IsRefusalTold found error.Memory = ⊤
IsRefusalTold found (error.Refused refusal) = option_map told found ≡ Some refusal
