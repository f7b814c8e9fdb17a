-- What is judged of bytes as the head of a response.
use Rattle.std.specs.Prelude.{◌≡◌, ℕ, List, length, drop}
use Rattle.httparse.specs.Grammar.{ResponseHead, print_response, status_code}
use Rattle.http_model.specs.Heads.{IsWholeResponse, IsOpenResponse, IsBadResponse}
use Rattle.http_model.specs.Message.{framing_of}
use Rattle.http_model.specs.declared.framing.Framing.{Framing}
use Rattle.fetch_link.specs.declared.head.Judged.{Judged}
use Rattle.fetch_link.specs.declared.head.Judged.TheVariants.{Open, Bad, Whole}

-- the first so many bytes are a head with this status, behind which a body ends in this way
pub record IsHead (bytes : List ℕ) (code : ℕ) (ends : Framing) (size : ℕ) (head : ResponseHead) : Type 0 where
  pub whole : IsWholeResponse bytes head (drop size bytes)
  pub status : code ≡ status_code head
  pub framing : ends ≡ framing_of head
  pub len : size ≡ length (print_response head)

-- what is judged holds of the bytes: the head is open, it is bad, or it is whole with this status, ending and size
abbrev pub IsJudgement : List ℕ → Judged → Type 0
IsJudgement bytes Open = IsOpenResponse bytes
IsJudgement bytes Bad = IsBadResponse bytes
IsJudgement bytes (Whole code ends size) = (head : ResponseHead) × IsHead bytes code ends size head
