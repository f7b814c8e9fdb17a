-- The lines of an input, and all that is written for them.
use Rattle.std.specs.Prelude.{ℕ, ◌+◌, ◌==◌, ◌||◌, Bool, if◌then◌else◌, List, [], ◌∷◌, ◌++◌}
use Rattle.std.specs.List.{list_all}
use Rattle.judged_dispatch.specs.declared.service.Service.{Service}
use Rattle.gate_machine.specs.Machine.{GatewayState, empty_state, Step, line_taken}

-- a byte before the first of these lines
abbrev pub grown : ℕ → List (List ℕ) → List (List ℕ)
grown b [] = (b ∷ []) ∷ []
grown b (line ∷ lines) = (b ∷ line) ∷ lines

-- The lines of some bytes, without the line feeds that end them. A last line without one is a line too.
abbrev pub lines_of : List ℕ → List (List ℕ)
lines_of [] = []
lines_of (b ∷ bs) = if b == 10 then [] ∷ lines_of bs else grown b (lines_of bs)

-- a line of spaces, tabs and carriage returns alone
abbrev pub is_blank : List ℕ → Bool
is_blank line = list_all (λ b. b == 32 || b == 9 || b == 13) line

-- a blank line is counted and passed over
abbrev pub line_run : ℕ → List ℕ → GatewayState → Step
line_run number line state = if is_blank line then record { text = []; state = state } else line_taken number line state

-- what is written for these lines, the first of which has this number
abbrev pub lines_run : ℕ → GatewayState → List (List ℕ) → List ℕ
lines_run number state [] = []
lines_run number state (line ∷ lines) = (line_run number line state).text ++ lines_run (number + 1) (line_run number line state).state lines

-- what is written for an input, by what its documents are judged under
abbrev pub run_text : Service → List ℕ → List ℕ
run_text service input = lines_run 1 (empty_state service) (lines_of input)
