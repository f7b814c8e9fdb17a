-- A chunked body, byte by byte (RFC 9112, 7.1). Extensions and trailers are passed over.
use Rattle.std.specs.Prelude.{ℕ, ◌+◌, ◌*◌, ◌-◌, ◌==◌, ◌||◌, nat_lt, min, if◌then◌else◌, List, [], ◌∷◌, ◌++◌, length, fold}
use Rattle.std.specs.Char.{is_ascii_hexdigit, digit_value}
use Rattle.http_model.specs.declared.chunk.ChunkPhase.{ChunkPhase}
use Rattle.http_model.specs.declared.chunk.ChunkPhase.TheVariants.{Size, Pad, Extension, SizeEnd, Data, DataEnd, DataEndLf, Trailer, TrailerCr, TrailerLine}
use Rattle.http_model.specs.declared.chunk.ChunkStep.{ChunkStep}
use Rattle.http_model.specs.declared.chunk.ChunkStep.TheVariants as is
use Rattle.http_model.specs.Framing.{body_limit}

-- a byte behind the digits of a size line: white space, an extension or the line's end
abbrev pub behind_size : ℕ → ℕ → ChunkStep
behind_size size b =
    if b == 32 || b == 9 then is.Form (Pad size) else (
    if b == 59 then is.Form (Extension size) else (
    if b == 13 then is.Form (SizeEnd size) else is.Malformed))

-- a size, where each past the limit of a body counts as the first past it: its data passes the limit before its end comes
abbrev pub capped : ℕ → ℕ
capped size = min size (body_limit + 1)

-- a byte at the front of a size line: at most 16 hexadecimal digits, and at least one
abbrev pub in_size : ℕ → ℕ → ℕ → ChunkStep
in_size digits size b =
    if is_ascii_hexdigit b then (if nat_lt digits 16 then is.Form (Size (digits + 1) (capped (size * 16 + digit_value b))) else is.Malformed)
    else (if digits == 0 then is.Malformed else behind_size size b)

-- the last chunk has the size 0, and trailers follow it
abbrev pub behind_size_line : ℕ → ChunkPhase
behind_size_line size = if size == 0 then Trailer else Data size

-- what one more byte is
abbrev pub chunk_step : ChunkPhase → ℕ → ChunkStep
chunk_step (Size digits size) b = in_size digits size b
chunk_step (Pad size) b = behind_size size b
chunk_step (Extension size) b = if b == 13 then is.Form (SizeEnd size) else (if b == 10 then is.Malformed else is.Form (Extension size))
chunk_step (SizeEnd size) b = if b == 10 then is.Form (behind_size_line size) else is.Malformed
chunk_step (Data left) b = is.Data (if nat_lt 1 left then Data (left - 1) else DataEnd)
chunk_step DataEnd b = if b == 13 then is.Form DataEndLf else is.Malformed
chunk_step DataEndLf b = if b == 10 then is.Form (Size 0 0) else is.Malformed
chunk_step Trailer b = if b == 10 then is.Whole else (if b == 13 then is.Form TrailerCr else is.Form TrailerLine)
chunk_step TrailerCr b = if b == 10 then is.Whole else is.Form TrailerLine
chunk_step TrailerLine b = if b == 10 then is.Form Trailer else is.Form TrailerLine

-- what a chunked body is so far
pub data Chunked : Type 0 where
  -- this data came, and more is to come
  reading : (phase : ChunkPhase) (came : List ℕ) → Chunked
  -- it is whole, with this data
  whole : (came : List ℕ) → Chunked
  -- a byte came that can't stand there
  malformed : Chunked
  -- its data passed the limit
  too_long : Chunked

-- the data that came, where the next byte is this
abbrev pub with_step : List ℕ → ℕ → ChunkStep → Chunked
with_step came b (is.Form phase) = reading phase came
with_step came b (is.Data phase) = if nat_lt (length came) body_limit then reading phase (came ++ b ∷ []) else too_long
with_step came b is.Whole = whole came
with_step came b is.Malformed = malformed

-- one more byte; behind the end nothing is read
abbrev pub chunk_after : Chunked → ℕ → Chunked
chunk_after (reading phase came) b = with_step came b (chunk_step phase b)
chunk_after (whole came) b = whole came
chunk_after malformed b = malformed
chunk_after too_long b = too_long

-- a chunked body of which these bytes came
abbrev pub chunked : List ℕ → Chunked
chunked bytes = fold chunk_after (reading (Size 0 0) []) bytes
