-- What is kept of a body, beside the bytes of it that came.
use Rattle.std.specs.Prelude.{◌≡◌, ℕ, ◌<◌, ◌≤◌, List, length, Option, None, Some}
use Rattle.gql_value.specs.Outcome.{meaning_of}
use Rattle.gql_value.specs.declared.outcome.Outcome.{Outcome}
use Rattle.http_model.specs.Chunks.{chunked, reading}
use Rattle.http_model.specs.Framing.{body_limit}
use Rattle.http_model.specs.Message.{Progress, wants, done, body_progress}
use Rattle.http_model.specs.declared.framing.Framing.{Framing}
use Rattle.http_model.specs.declared.framing.Framing.TheVariants as framing
use Rattle.fetch_link.specs.declared.body.Rest.{Rest}
use Rattle.fetch_link.specs.declared.body.Rest.TheVariants as rest
use Rattle.fetch_link.specs.declared.body.Body.{Body}
use Rattle.fetch_link.specs.declared.body.BodyStep.{BodyStep}
use Rattle.fetch_link.specs.declared.body.BodyStep.TheVariants as step

-- no outcome yet, or one
abbrev pub progress_of : Option Outcome → Progress
progress_of None = wants
progress_of (Some outcome) = done (meaning_of outcome)

-- the data that is kept is what came, or what its chunks held so far
abbrev pub KeepsData : Rest → List ℕ → Framing → List ℕ → Type 0
KeepsData (rest.Exact size) kept ends came = (ends ≡ framing.Exact size) × (kept ≡ came) × (length came < size)
KeepsData (rest.Chunked phase) kept ends came = (ends ≡ framing.Chunked) × (chunked came ≡ reading phase kept)
KeepsData rest.UntilClose kept ends came = (ends ≡ framing.UntilClose) × (kept ≡ came) × (length came ≤ body_limit)

-- a body under this status, that ends in this way, of which these bytes came
pub record Keeps (body : Body) (code : ℕ) (ends : Framing) (came : List ℕ) : Type 0 where
  pub status : body.status ≡ code
  pub data_kept : KeepsData body.rest body.kept ends came

-- after further bytes: the body is kept and wants more, or it is what its bytes come to
abbrev pub BodyGives : BodyStep → ℕ → Framing → List ℕ → Type 0
BodyGives (step.Wants body) code ends came = Keeps body code ends came × (body_progress code ends came ≡ wants)
BodyGives (step.Done outcome) code ends came = body_progress code ends came ≡ done (meaning_of outcome)
