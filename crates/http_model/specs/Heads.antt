-- Bytes as the head of a message, by httparse's grammar (RFC 9112, 2 to 5), within this project's limits.
use Rattle.std.specs.Prelude.{ℕ, ◌+◌, ◌≤◌, ◌==◌, if◌then◌else◌, List, [], ◌∷◌, length, count_by}
use Rattle.httparse.specs.Pieces.{is_newline}
use Rattle.httparse.specs.Grammar.{ResponseHead, print_response, ReadsResponse, HasNoResponse, MayBecomeResponse}

-- the bytes of a head, from the first byte of its message
abbrev pub head_limit : ℕ
head_limit = 65536

-- the field lines of a head
abbrev pub field_limit : ℕ
field_limit = 100

-- what stands behind the empty lines before a start line (RFC 9112, 2.2)
abbrev pub skip_empty_lines : List ℕ → List ℕ
skip_empty_lines [] = []
skip_empty_lines (b ∷ bytes) = if is_newline b then skip_empty_lines bytes else b ∷ bytes

-- how many lines have ended, from the start line on
abbrev pub lines_ended : List ℕ → ℕ
lines_ended bytes = count_by (λ b. b == 10) (skip_empty_lines bytes)

-- the bytes are the head of a response, and then the rest; the head is within the limits
pub record IsWholeResponse (bytes : List ℕ) (head : ResponseHead) (rest : List ℕ) : Type 0 where
  pub reads : ReadsResponse bytes head rest
  pub fields : length head.fields ≤ field_limit
  pub size : length (print_response head) ≤ head_limit

-- the bytes have no whole head, more bytes can make them one, and no limit is passed: the start line and 100 field lines may have ended
pub record IsOpenResponse (bytes : List ℕ) : Type 0 where
  pub none : HasNoResponse bytes
  pub may : MayBecomeResponse bytes
  pub size : length bytes ≤ head_limit
  pub lines : lines_ended bytes ≤ field_limit + 1

-- the head can't go on, or is over its limits
pub record IsBadResponse (bytes : List ℕ) : Type 0 where
  pub none : (head : ResponseHead) (rest : List ℕ) → ¬ (IsWholeResponse bytes head rest)
  pub stuck : ¬ (IsOpenResponse bytes)
