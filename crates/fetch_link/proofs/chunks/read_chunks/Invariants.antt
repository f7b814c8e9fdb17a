use Rattle.std.proofs.Common.{◌≡◌, drop, fold}
use Rattle.http_model.specs.Chunks.{reading, chunk_after}
use Rattle.fetch_link.proofs.chunks.read_chunks.Given as goal

abbrev pub invariant-loop-byte : goal.invariant-loop-byte
invariant-loop-byte l =
    fold chunk_after (reading l.phase l.came) (drop l.byte-index l.bytes) ≡ fold chunk_after (reading l.initial.phase l.initial.came) l.bytes
