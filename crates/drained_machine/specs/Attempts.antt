-- What the run of a queue of attempts handles.
use Rattle.std.specs.Prelude.{ℕ, zero, suc, ◌+◌, ◌-◌, ◌==◌, if◌then◌else◌, List, [], ◌∷◌, ◌++◌, sum_by}
use Rattle.drained_machine.specs.declared.attempts.Attempt.{Attempt}

-- an attempt, and those that are left behind it
abbrev pub weight : Attempt → ℕ
weight attempt = attempt.left + 1

-- the attempt that follows one, if any is left
abbrev pub retries : Attempt → List Attempt
retries attempt = if attempt.left == 0 then [] else record { number = attempt.number; left = attempt.left - 1 } ∷ []

-- the first so many attempts that are handled: each time the first of the queue, and what follows it goes behind the others
abbrev pub handled_first : ℕ → List Attempt → List Attempt
handled_first zero queue = []
handled_first (suc count) [] = []
handled_first (suc count) (attempt ∷ rest) = attempt ∷ handled_first count (rest ++ retries attempt)

-- all attempts that are handled
abbrev pub handled : List Attempt → List Attempt
handled queue = handled_first (sum_by weight queue) queue
