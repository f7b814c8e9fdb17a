-- What all the bytes of a connection so far come to, as a request (RFC 9112).
use Rattle.std.specs.Prelude.{◌≡◌, ◌⊎◌, ℕ, ◌+◌, ◌≤◌, nat_le, if◌then◌else◌, List, [], length, take, map}
use Rattle.httparse.specs.Grammar.{RequestHead, print_request, ReadsRequest, HasNoRequest, MayBecomeRequest}
use Rattle.httparse.specs.Spans.{name_and_value}
use Rattle.http_model.specs.declared.framing.Framing.{Framing}
use Rattle.http_model.specs.declared.framing.Framing.TheVariants as framing
use Rattle.http_model.specs.Heads.{head_limit, field_limit, lines_ended}
use Rattle.http_model.specs.Framing.{request_framing}
use Rattle.http_model.specs.Chunks.{Chunked, reading, whole, malformed, too_long, chunked}

-- the bytes are the head of a request, and then the rest; the head is within the limits
pub record IsWholeRequest (bytes : List ℕ) (head : RequestHead) (rest : List ℕ) : Type 0 where
  pub reads : ReadsRequest bytes head rest
  pub fields : length head.fields ≤ field_limit
  pub size : length (print_request head) ≤ head_limit

-- no line that isn't empty has ended within the limit, so the bytes aren't looked at yet
abbrev pub IsUnread : List ℕ → Type 0
IsUnread bytes = (lines_ended bytes ≡ 0) × (length bytes ≤ head_limit)

-- the bytes have no whole head, more bytes can make them one, and no limit is passed
pub record IsOpenRequest (bytes : List ℕ) : Type 0 where
  pub none : HasNoRequest bytes
  pub may : MayBecomeRequest bytes
  pub size : length bytes ≤ head_limit
  pub lines : lines_ended bytes ≤ field_limit + 1

-- the head can't go on, or is over its limits
pub record IsBadRequest (bytes : List ℕ) : Type 0 where
  pub read : ¬ (IsUnread bytes)
  pub none : (head : RequestHead) (rest : List ℕ) → ¬ (IsWholeRequest bytes head rest)
  pub stuck : ¬ (IsOpenRequest bytes)

-- what the body of a request is so far, or the status that refuses it (RFC 9110, 15.5.1 and 15.5.14)
pub data BodySoFar : Type 0 where
  wants : BodySoFar
  complete : (body : List ℕ) → BodySoFar
  refused : (status : ℕ) → BodySoFar

-- a chunked body of a request
abbrev pub chunked_so_far : Chunked → BodySoFar
chunked_so_far (reading phase came) = wants
chunked_so_far (whole came) = complete came
chunked_so_far malformed = refused 400
chunked_so_far too_long = refused 413

-- a body that ends in this way, of which these bytes came; that of a request never lasts until the close
abbrev pub body_so_far : Framing → List ℕ → BodySoFar
body_so_far framing.Empty came = complete []
body_so_far (framing.Exact size) came = if nat_le size (length came) then complete (take size came) else wants
body_so_far framing.Chunked came = chunked_so_far (chunked came)
body_so_far framing.UntilClose came = complete []
body_so_far framing.Malformed came = refused 400
body_so_far framing.TooLong came = refused 413

-- what the bytes so far ask
pub data Asking : Type 0 where
  wants_more : Asking
  asks : (method path body : List ℕ) → Asking
  refuses : (status : ℕ) → Asking

-- what a request with this head asks, whose body is this so far
abbrev pub asking : RequestHead → BodySoFar → Asking
asking head wants = wants_more
asking head (complete body) = asks head.method head.target body
asking head (refused status) = refuses status

-- how the body behind this head ends
abbrev pub request_framing_of : RequestHead → Framing
request_framing_of head = request_framing (map name_and_value head.fields)

-- what all the bytes so far ask
abbrev pub Asks : List ℕ → Asking → Type 0
Asks bytes asked =
    (IsUnread bytes × (asked ≡ wants_more))
    ⊎ ((IsOpenRequest bytes × (asked ≡ wants_more))
    ⊎ ((IsBadRequest bytes × (asked ≡ refuses 400))
    ⊎ ((head : RequestHead) × (came : List ℕ) × IsWholeRequest bytes head came × (asked ≡ asking head (body_so_far (request_framing_of head) came)))))
