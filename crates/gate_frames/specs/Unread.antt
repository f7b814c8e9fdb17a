-- What is told where a frame can't be read.
use Rattle.std.specs.Prelude.{◌≡◌}
use Rattle.std.specs.declared.result.Result.TheVariants.{Err}
use Rattle.gate_frames.specs.declared.unread.Unread.{Unread}
use Rattle.gate_frames.specs.declared.unread.Unread.TheVariants.{Memory, NotWhole}
use Rattle.gate_frames.specs.Dispatches.{Read}

-- the path to the number that isn't whole, or memory ran out
abbrev pub TellsPath : {X : Type 0} → Read X → Unread → Type 0
TellsPath read Memory = Unit {0}
TellsPath read (NotWhole path) = read ≡ Err path
