-- What all the bytes of a connection so far come to, as a response (RFC 9112).
use Rattle.std.specs.Prelude.{◌≡◌, ◌⊎◌, ℕ, ◌&&◌, nat_le, nat_lt, Bool, false, true, if◌then◌else◌, List, [], ◌++◌, length, take, map, All}
use Rattle.std.specs.List.{flat_map}
use Rattle.httparse.specs.Grammar.{ResponseHead, print_response, status_code}
use Rattle.httparse.specs.Spans.{name_and_value}
use Rattle.gql_value.specs.Outcome.{Meaning, bad, outcome_meaning}
use Rattle.gql_value.specs.declared.outcome.Fault.TheVariants.{F6, F7, F8}
use Rattle.http_model.specs.declared.framing.Framing.{Framing}
use Rattle.http_model.specs.declared.framing.Framing.TheVariants as framing
use Rattle.http_model.specs.Heads.{IsWholeResponse, IsOpenResponse, IsBadResponse}
use Rattle.http_model.specs.Framing.{body_limit, response_framing}
use Rattle.http_model.specs.Chunks.{Chunked, reading, whole, malformed, too_long, chunked}

-- what the bytes so far come to
pub data Progress : Type 0 where
  -- more bytes, or the close, are to come
  wants : Progress
  -- the outcome, whatever follows
  done : Meaning → Progress

-- a chunked body under this status
abbrev pub chunk_progress : ℕ → Chunked → Progress
chunk_progress status (reading phase came) = wants
chunk_progress status (whole came) = done (outcome_meaning status came)
chunk_progress status malformed = done (bad F7)
chunk_progress status too_long = done (bad F8)

-- a body that ends in this way, of which these bytes came
abbrev pub body_progress : ℕ → Framing → List ℕ → Progress
body_progress status framing.Empty came = done (outcome_meaning status [])
body_progress status (framing.Exact size) came = if nat_le size (length came) then done (outcome_meaning status (take size came)) else wants
body_progress status framing.Chunked came = chunk_progress status (chunked came)
body_progress status framing.UntilClose came = if nat_lt body_limit (length came) then done (bad F8) else wants
body_progress status framing.Malformed came = done (bad F7)
body_progress status framing.TooLong came = done (bad F8)

-- the same at the close: only a body that lasts until then is whole
abbrev pub closed_body : ℕ → Framing → List ℕ → Meaning
closed_body status framing.UntilClose came = outcome_meaning status came
closed_body status framing.Empty came = bad F6
closed_body status (framing.Exact size) came = bad F6
closed_body status framing.Chunked came = bad F6
closed_body status framing.Malformed came = bad F6
closed_body status framing.TooLong came = bad F6

-- an interim response, which another follows (RFC 9110, 15.2)
abbrev pub is_interim : ℕ → Bool
is_interim status = nat_le 100 status && nat_le status 199

-- how the body behind this head ends
abbrev pub framing_of : ResponseHead → Framing
framing_of head = response_framing (status_code head) (map name_and_value head.fields)

-- the head of an interim response, within its limits
abbrev pub IsInterim : ResponseHead → Type 0
IsInterim head = IsWholeResponse (print_response head) head [] × (is_interim (status_code head) ≡ true)

-- the bytes are heads of interim responses, and then these
pub record BehindInterim (bytes rest : List ℕ) : Type 0 where
  pub interim : List ResponseHead
  pub split : bytes ≡ flat_map print_response interim ++ rest
  pub each : All IsInterim interim

-- the bytes are the head of a final response, and then these
pub record IsFinal (bytes : List ℕ) (head : ResponseHead) (came : List ℕ) : Type 0 where
  pub reads : IsWholeResponse bytes head came
  pub final : is_interim (status_code head) ≡ false

-- what the bytes behind the interim responses come to
abbrev pub FinalGives : List ℕ → Progress → Type 0
FinalGives bytes progress =
    (IsOpenResponse bytes × (progress ≡ wants))
    ⊎ ((IsBadResponse bytes × (progress ≡ done (bad F7)))
    ⊎ ((head : ResponseHead) × (came : List ℕ) × IsFinal bytes head came × (progress ≡ body_progress (status_code head) (framing_of head) came)))

-- what all the bytes so far come to
pub record Decoded (bytes : List ℕ) (progress : Progress) : Type 0 where
  pub rest : List ℕ
  pub behind : BehindInterim bytes rest
  pub gives : FinalGives rest progress

-- what the bytes behind the interim responses come to at the close: F6, where no whole head stands there. That of an
-- interim response counts too, since what follows it says what the bytes come to.
abbrev pub ClosedGives : List ℕ → Meaning → Type 0
ClosedGives bytes meaning =
    (((head : ResponseHead) (came : List ℕ) → ¬ (IsWholeResponse bytes head came)) × (meaning ≡ bad F6))
    ⊎ ((head : ResponseHead) × (came : List ℕ) × IsFinal bytes head came × (meaning ≡ closed_body (status_code head) (framing_of head) came))

-- what all the bytes come to where the connection is closed behind them
pub record Closed (bytes : List ℕ) (meaning : Meaning) : Type 0 where
  pub rest : List ℕ
  pub behind : BehindInterim bytes rest
  pub gives : ClosedGives rest meaning
