-- The whole lines of some bytes, and what is written for them.
use Rattle.std.specs.Prelude.{◌≡◌, ℕ, ◌==◌, if◌then◌else◌, false, List, [], ◌∷◌, ◌++◌, length, take, nat_le}
use Rattle.std.specs.List.{AllByRecursion}
use Rattle.judged_dispatch.specs.declared.service.Service.{Service}
use Rattle.gate_machine.specs.Machine.{empty_state}
use Rattle.gate_machine.specs.Runs.{lines_run, run_text}
use Rattle.gateway.specs.Stopped.{limit_line}

-- no byte is a line feed
abbrev pub HasNoLineFeed : List ℕ → Type 0
HasNoLineFeed bytes = AllByRecursion (λ b. (b == 10) ≡ false) bytes

-- a byte before the first of these lines, where there is one
abbrev pub grown_first : ℕ → List (List ℕ) → List (List ℕ)
grown_first b [] = []
grown_first b (line ∷ lines) = (b ∷ line) ∷ lines

-- the lines that a line feed ends, without it
abbrev pub whole_lines_of : List ℕ → List (List ℕ)
whole_lines_of [] = []
whole_lines_of (b ∷ bs) = if b == 10 then [] ∷ whole_lines_of bs else grown_first b (whole_lines_of bs)

-- what is written for all whole lines of some bytes, by the service
abbrev pub whole_lines_text : Service → List ℕ → List ℕ
whole_lines_text service bytes = lines_run 1 (empty_state service) (whole_lines_of bytes)

-- what is written for the first so many of the whole lines within the limit
abbrev pub first_lines_text : Service → ℕ → ℕ → List ℕ → List ℕ
first_lines_text service limit count bytes = lines_run 1 (empty_state service) (take count (whole_lines_of (take limit bytes)))

-- What is written for an input that goes past the limit: the text of all whole lines within it, and then
-- the stopped line.
abbrev pub limited_text : Service → ℕ → List ℕ → List ℕ
limited_text service limit bytes = whole_lines_text service (take limit bytes) ++ limit_line

-- all that is written for an input: the text of its lines, or where it goes past the limit, the text above
abbrev pub full_text : Service → ℕ → List ℕ → List ℕ
full_text service limit bytes = if nat_le (length bytes) limit then run_text service bytes else limited_text service limit bytes
