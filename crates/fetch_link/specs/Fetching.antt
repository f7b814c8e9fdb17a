-- What a fetch keeps of all the bytes so far.
use Rattle.std.specs.Prelude.{◌≡◌, ℕ, List, true, drop}
use Rattle.httparse.specs.Grammar.{ResponseHead, status_code}
use Rattle.gql_value.specs.Outcome.{meaning_of}
use Rattle.http_model.specs.Heads.{IsWholeResponse}
use Rattle.http_model.specs.Message.{wants, done, is_interim, framing_of, BehindInterim, IsFinal, Decoded}
use Rattle.head_scan.specs.Scans.{ScansResponse}
use Rattle.fetch_link.specs.Bodies.{Keeps}
use Rattle.fetch_link.specs.declared.body.Body.{Body}
use Rattle.fetch_link.specs.declared.fetch.HeadSoFar.{HeadSoFar}
use Rattle.fetch_link.specs.declared.fetch.State.{State}
use Rattle.fetch_link.specs.declared.fetch.State.TheVariants as state
use Rattle.fetch_link.specs.declared.fetch.Step.{Step}
use Rattle.fetch_link.specs.declared.fetch.Step.TheVariants as step

-- bytes that have no whole head yet
abbrev pub HasNoHead : List ℕ → Type 0
HasNoHead bytes = (head : ResponseHead) (rest : List ℕ) → ¬ (IsWholeResponse bytes head rest)

-- the bytes so far are heads of interim responses, and then these, which have no whole head yet
pub record InHead (seen : List ℕ) (kept : HeadSoFar) : Type 0 where
  pub behind : BehindInterim seen kept.bytes
  pub none : HasNoHead kept.bytes
  pub scans : ScansResponse kept.scan kept.bytes

-- the bytes so far are heads of interim responses, a final head, and what came of its body
pub record InBody (seen : List ℕ) (body : Body) : Type 0 where
  pub rest : List ℕ
  pub behind : BehindInterim seen rest
  pub head : ResponseHead
  pub came : List ℕ
  pub final : IsFinal rest head came
  pub keeps : Keeps body (status_code head) (framing_of head) came

-- what is kept stands for all the bytes so far
abbrev pub Stands : State → List ℕ → Type 0
Stands (state.Head kept) seen = InHead seen kept
Stands (state.Body body) seen = InBody seen body

-- after further bytes: what is kept stands for all of them and they want more, or they come to an outcome
abbrev pub StepGives : Step → List ℕ → Type 0
StepGives (step.Wants kept) seen = Stands kept seen × Decoded seen wants
StepGives (step.Done outcome) seen = Decoded seen (done (meaning_of outcome))

-- the first so many bytes are the head of an interim response
abbrev pub IsInterimAt : List ℕ → ℕ → Type 0
IsInterimAt bytes size = (head : ResponseHead) × IsWholeResponse bytes head (drop size bytes) × (is_interim (status_code head) ≡ true)
