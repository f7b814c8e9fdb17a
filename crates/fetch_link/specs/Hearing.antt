-- What is kept of all the bytes of a request so far.
use Rattle.std.specs.Prelude.{◌≡◌, ℕ, List}
use Rattle.httparse.specs.Grammar.{RequestHead}
use Rattle.http_model.specs.Requests.{IsWholeRequest, request_framing_of, Asks, wants_more, asks, refuses}
use Rattle.head_scan.specs.Scans.{ScansRequest}
use Rattle.fetch_link.specs.Received.{KeepsPending}
use Rattle.fetch_link.specs.declared.hearing.Begun.{Begun}
use Rattle.fetch_link.specs.declared.hearing.Heard.{Heard}
use Rattle.fetch_link.specs.declared.hearing.Heard.TheVariants as heard
use Rattle.fetch_link.specs.declared.hearing.Hearing.{Hearing}
use Rattle.fetch_link.specs.declared.hearing.Hearing.TheVariants as hearing

-- the bytes so far are a head, and what came of its body
pub record IsBegun (seen : List ℕ) (begun : Begun) : Type 0 where
  pub head : RequestHead
  pub came : List ℕ
  pub whole : IsWholeRequest seen head came
  pub method : begun.method ≡ head.method
  pub path : begun.path ≡ head.target
  pub keeps : KeepsPending begun.pending begun.kept (request_framing_of head) came

-- what is kept stands for all the bytes so far
abbrev pub Hears : Heard → List ℕ → Type 0
Hears (heard.Head kept) seen = (kept.bytes ≡ seen) × ScansRequest kept.scan seen
Hears (heard.Body begun) seen = IsBegun seen begun

-- after further bytes: what is kept stands for all of them and they want more, or they ask or are refused
abbrev pub HearingGives : Hearing → List ℕ → Type 0
HearingGives (hearing.Wants kept) seen = Hears kept seen × Asks seen wants_more
HearingGives (hearing.Asks method path body) seen = Asks seen (asks method path body)
HearingGives (hearing.Refuses status) seen = Asks seen (refuses status)
