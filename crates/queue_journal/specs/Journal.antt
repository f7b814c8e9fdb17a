-- What an open journal holds, and how this stands to the file on its disk.
use Rattle.std.specs.Prelude.{◌≡◌, ℕ, ◌+◌, ◌<◌, ◌≤◌, List, [], ◌∷◌, Option, length, All, if◌then◌else◌, ◌==◌}
use Rattle.fault_causes.specs.Crash.{Only}
use Rattle.queue_model.specs.Queue.{MutationQueue, RiseBetween}
use Rattle.queue_model.specs.QueueFile.{StoredRow, with_record, held_rows, last_number, end_of, IsQueueFile}
use Rattle.queue_journal.specs.Steps.{WhereTold}

-- the disk, the queue, and the place of the state byte of each row
pub record OpenJournal (D : Type 0) : Type 0 where
  pub disk : D
  pub queue : MutationQueue
  pub places : List ℕ

-- the record of a row that is held
abbrev pub held_record : ℕ → List ℕ → List ℕ → List ℕ → StoredRow
held_record seq document operation variables =
    record { state = 0; row = record { seq = seq; document = document; operation = operation; variables = variables } }

-- the places of the state bytes of the held rows, where the chain's first commit byte stands at this place
abbrev pub state_places : ℕ → List StoredRow → List ℕ
state_places at [] = []
state_places at (stored ∷ more) =
    let later = state_places (at + 1 + length (with_record stored [])) more in
    if stored.state == 0 then (at + 1) ∷ later else later

-- the file is a queue file of this chain, and the journal holds its rows, its end and the places of its rows
pub record Stands (file : List ℕ) (chain : List StoredRow) (queue : MutationQueue) (places : List ℕ) : Type 0 where
  pub bytes : IsQueueFile file chain
  pub rows : queue.rows ≡ held_rows chain
  pub end : queue.end ≡ end_of chain
  pub greatest : last_number 0 chain ≤ queue.greatest
  pub at : places ≡ state_places 8 chain

-- no call has failed: the rows are in order, their places lie within what the disk keeps, and where the disk tells its file, this stands for them and all of it is on the disk
pub record IsSettled {D : Type 0} (reads : D → Option (List ℕ)) (kept : D → ℕ) (may_leave : D → List ℕ → Type 0) (journal : OpenJournal D) : Type 0 where
  pub rising : RiseBetween 0 journal.queue.greatest journal.queue.rows
  pub counts : length journal.places ≡ length journal.queue.rows
  pub limit : journal.queue.limit ≤ 67108864
  pub start : 9 ≤ journal.queue.end
  pub end : journal.queue.end ≤ kept journal.disk
  pub empty : journal.queue.rows ≡ [] → journal.queue.end ≡ 9
  pub inside : All (λ place. place < journal.queue.end) journal.places
  pub told : WhereTold (reads journal.disk) (λ file.
      ((chain : List StoredRow) × Stands file chain journal.queue journal.places) × Only file (may_leave journal.disk))
