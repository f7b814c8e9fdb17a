-- What is kept of the body of a request, beside the bytes of it that came.
use Rattle.std.specs.Prelude.{◌≡◌, ℕ, ◌<◌, List, length}
use Rattle.http_model.specs.Chunks.{chunked, reading}
use Rattle.http_model.specs.Requests.{wants, complete, refused, body_so_far}
use Rattle.http_model.specs.declared.framing.Framing.{Framing}
use Rattle.http_model.specs.declared.framing.Framing.TheVariants as framing
use Rattle.fetch_link.specs.declared.received.Pending.{Pending}
use Rattle.fetch_link.specs.declared.received.Pending.TheVariants as pending
use Rattle.fetch_link.specs.declared.received.Received.{Received}
use Rattle.fetch_link.specs.declared.received.Received.TheVariants as received

-- the data that is kept is what came, or what its chunks held so far
abbrev pub KeepsPending : Pending → List ℕ → Framing → List ℕ → Type 0
KeepsPending (pending.Exact size) kept ends came = (ends ≡ framing.Exact size) × (kept ≡ came) × (length came < size)
KeepsPending (pending.Chunked phase) kept ends came = (ends ≡ framing.Chunked) × (chunked came ≡ reading phase kept)

-- the body is kept and wants more, or it is what its bytes come to
abbrev pub ReceivedGives : Received → Framing → List ℕ → Type 0
ReceivedGives (received.Wants rest kept) ends came = KeepsPending rest kept ends came × (body_so_far ends came ≡ wants)
ReceivedGives (received.Complete body) ends came = body_so_far ends came ≡ complete body
ReceivedGives (received.Refused status) ends came = body_so_far ends came ≡ refused status
