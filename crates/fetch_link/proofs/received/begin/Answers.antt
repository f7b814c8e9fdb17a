use Rattle.std.proofs.Common.{[], ap, sym}
use Rattle.http_model.specs.Chunks.{reading}
use Rattle.http_model.specs.declared.chunk.ChunkPhase.TheVariants.{Size}
use Rattle.fetch_link.proofs.received.begin.Goals as goal

pub returns-in-Chunked : goal.returns-in-Chunked
returns-in-Chunked c = rw c.in-Chunked.is (c.more_chunks.ensures [] (ap (reading (Size 0 0)) (sym c.new-in-Chunked.ensures)))
