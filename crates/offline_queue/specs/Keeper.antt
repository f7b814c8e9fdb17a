-- How a put answers, and which files a crash may leave.
use Rattle.std.specs.Prelude.{◌≡◌, ◌⊎◌, ℕ, ◌+◌, ◌-◌, ◌<◌, ◌≤◌, ◌^◌, min, ⊤, List, Result, Ok, Err}
use Rattle.queue_model.specs.declared.row.Row.{Row}
use Rattle.queue_model.specs.Queue.{MutationQueue, HasNumber, HasRoom}
use Rattle.queue_model.specs.QueueFile.{RowsOfFile}
use Rattle.offline_queue.specs.declared.keeper.PutError.{PutError}
use Rattle.offline_queue.specs.declared.keeper.PutError.TheVariants.{Memory, Numbers, Full, Failed}

-- the next number where there is one and room for the need; `Numbers` where no number is left, and else `Full` where there is no room, with the need and what is left; want of memory may come at any time
abbrev pub AnswersPut : MutationQueue → ℕ → Result ℕ PutError → Type 0
AnswersPut queue need (Ok seq) = (seq ≡ queue.greatest + 1) × HasNumber queue × HasRoom queue need
AnswersPut queue need (Err Numbers) = 2 ^ 63 ≤ queue.greatest + 1
AnswersPut queue need (Err (Full need' left)) =
    HasNumber queue × (queue.limit < queue.end + need) × (need' ≡ min need (2 ^ 64 - 1)) × (left ≡ queue.limit - queue.end)
AnswersPut queue need (Err Failed) = HasNumber queue × HasRoom queue need
AnswersPut queue need (Err Memory) = ⊤

-- the row was refused before the device was called
abbrev pub IsRefusal : {T : Type 0} → Result T PutError → Type 0
IsRefusal (Ok _) = ⊥
IsRefusal (Err Failed) = ⊥
IsRefusal (Err Memory) = ⊤
IsRefusal (Err Numbers) = ⊤
IsRefusal (Err (Full _ _)) = ⊤

-- why a row of this need can't be put: no number is left for it, or no room
abbrev pub RefusesPut : MutationQueue → ℕ → PutError → Type 0
RefusesPut queue need Memory = ⊥
RefusesPut queue need Failed = ⊥
RefusesPut queue need Numbers = AnswersPut queue need (Err Numbers)
RefusesPut queue need (Full need' left) = AnswersPut queue need (Err (Full need' left))

-- the file stands for the rows before the call, or for those after it
abbrev pub HasRowsBeforeOrAfter : List Row → List Row → List ℕ → Type 0
HasRowsBeforeOrAfter before after file = RowsOfFile file before ⊎ RowsOfFile file after
