-- Where a run stands among the bytes of its input, and what it writes as they come.
use Rattle.std.specs.Prelude.{ℕ, ◌+◌, ◌==◌, if◌then◌else◌, List, [], ◌∷◌, ◌++◌}
use Rattle.judged_dispatch.specs.declared.service.Service.{Service}
use Rattle.gate_machine.specs.Machine.{GatewayState, empty_state, Step}
use Rattle.gate_machine.specs.Runs.{line_run}

-- the number of the line that is being read, its bytes so far, and the machine's state
pub record Progress : Type 0 where
  pub number : ℕ
  pub rest : List ℕ
  pub state : GatewayState

-- before the first byte
abbrev pub start : Service → Progress
start service = record { number = 1; rest = []; state = empty_state service }

-- more bytes of the line
abbrev pub grown_by : Progress → List ℕ → Progress
grown_by progress bytes = record { number = progress.number; rest = progress.rest ++ bytes; state = progress.state }

-- what the line does, where it ends here
abbrev pub line_here : Progress → Step
line_here progress = line_run progress.number progress.rest progress.state

-- the line has ended, and the next begins
abbrev pub next_line : Progress → Progress
next_line progress = record { number = progress.number + 1; rest = []; state = (line_here progress).state }

-- what is written for the lines that end among these bytes
abbrev pub text_after : Progress → List ℕ → List ℕ
text_after progress [] = []
text_after progress (b ∷ bs) = if b == 10 then (line_here progress).text ++ text_after (next_line progress) bs else text_after (grown_by progress (b ∷ [])) bs

-- where the run stands after these bytes
abbrev pub progress_after : Progress → List ℕ → Progress
progress_after progress [] = progress
progress_after progress (b ∷ bs) = if b == 10 then progress_after (next_line progress) bs else progress_after (grown_by progress (b ∷ [])) bs
