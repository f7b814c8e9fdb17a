-- What is judged of bytes as the head of a request.
use Rattle.std.specs.Prelude.{◌≡◌, ℕ, List, length, drop}
use Rattle.httparse.specs.Grammar.{RequestHead, print_request}
use Rattle.httparse.specs.Spans.{IsWithin, span_bytes}
use Rattle.httparse.specs.declared.spans.Span.{Span}
use Rattle.http_model.specs.Requests.{IsWholeRequest, IsOpenRequest, IsBadRequest, IsUnread, request_framing_of}
use Rattle.http_model.specs.declared.framing.Framing.{Framing}
use Rattle.fetch_link.specs.declared.request_head.JudgedRequest.{JudgedRequest}
use Rattle.fetch_link.specs.declared.request_head.JudgedRequest.TheVariants.{Unread, Open, Bad, Whole}

-- a line that isn't empty has ended, or the head is over its limit
abbrev pub IsRead : List ℕ → Type 0
IsRead bytes = ¬ (IsUnread bytes)

-- the first so many bytes are a head with this method and this target, behind which a body ends in this way
pub record IsRequestHeadAt (bytes : List ℕ) (name target : Span) (ends : Framing) (size : ℕ) (head : RequestHead) : Type 0 where
  pub whole : IsWholeRequest bytes head (drop size bytes)
  pub name_within : IsWithin (length bytes) name
  pub target_within : IsWithin (length bytes) target
  pub method : span_bytes bytes name ≡ head.method
  pub path : span_bytes bytes target ≡ head.target
  pub framing : ends ≡ request_framing_of head
  pub len : size ≡ length (print_request head)

-- what is judged holds of the bytes: the head isn't looked at yet, is open, is bad,
-- or is whole with this method, target, ending and size
abbrev pub IsRequestJudgement : List ℕ → JudgedRequest → Type 0
IsRequestJudgement bytes Unread = IsUnread bytes
IsRequestJudgement bytes Open = IsOpenRequest bytes
IsRequestJudgement bytes Bad = IsBadRequest bytes
IsRequestJudgement bytes (Whole name target ends size) = (head : RequestHead) × IsRequestHeadAt bytes name target ends size head
