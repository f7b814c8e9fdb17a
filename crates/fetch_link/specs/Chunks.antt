-- A chunked body, of which this data came.
use Rattle.std.specs.Prelude.{ℕ, List}
use Rattle.http_model.specs.Chunks.{Chunked, reading, whole, malformed, too_long}
use Rattle.fetch_link.specs.declared.chunks.Chunks.{Chunks}
use Rattle.fetch_link.specs.declared.chunks.Chunks.TheVariants as chunks

-- what the body is so far: where its reading stands, with the data that came while it goes on or has come to the end
abbrev pub shown : Chunks → List ℕ → Chunked
shown (chunks.Reading phase) came = reading phase came
shown chunks.Whole came = whole came
shown chunks.Malformed came = malformed
shown chunks.TooLong came = too_long
