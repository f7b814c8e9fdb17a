-- What a reading of the queue file found, record by record.
use Rattle.std.specs.Prelude.{◌≡◌, ◌≢◌, ℕ, ◌+◌, ◌<◌, ◌≤◌, ◌^◌, ⊤, List, [], ◌∷◌, ◌++◌, Option, Some, Result, Ok, Err, Bool, true, false, length, drop, All}
use Rattle.std.specs.Int.{w64, to_be_bytes}
use Rattle.queue_model.specs.Queue.{RiseBetween}
use Rattle.queue_model.specs.QueueFile.{magic, StoredRow, with_text, with_record, with_chain, held_rows, last_number, end_of, FitsRecord, AreInOrder, IsQueueFile}
use Rattle.queue_journal.specs.declared.error.OpenError.{OpenError}
use Rattle.queue_journal.specs.declared.error.OpenError.TheVariants.{Memory, NotAJournal, Failed}
use Rattle.queue_journal.specs.declared.found.TextAt.{TextAt}
use Rattle.queue_journal.specs.declared.found.TextsAt.{TextsAt}
use Rattle.queue_journal.specs.declared.found.Head.{Head}
use Rattle.queue_journal.specs.declared.found.RecordAt.{RecordAt}
use Rattle.queue_journal.specs.declared.found.ChainSoFar.{ChainSoFar}
use Rattle.queue_journal.specs.Journal.{state_places}

-- P holds of the file as it reads, where the disk tells it and it has this length
abbrev pub WhereLong : Option (List ℕ) → ℕ → (List ℕ → Type 0) → Type 0
WhereLong told size P = (file : List ℕ) → told ≡ Some file → size ≡ length file → P file

-- the refusal is want of memory or a failure of the disk
abbrev pub UnlessRefused : {T : Type 0} → Result T OpenError → (T → Type 0) → Type 0 → Type 0
UnlessRefused (Ok x) P Q = P x
UnlessRefused (Err NotAJournal) P Q = Q
UnlessRefused (Err Memory) P Q = ⊤
UnlessRefused (Err Failed) P Q = ⊤

-- the first part of a record stands at this place, up to its end
abbrev pub ReadsHead : List ℕ → ℕ → Result Head OpenError → Type 0
ReadsHead file at result = UnlessRefused result
    (λ head. drop at file ≡ head.state ∷ (to_be_bytes w64 head.seq ++ drop (at + 9) file)) ⊤

-- a text with its length stands at this place, up to its end, or no text does
abbrev pub ReadsText : List ℕ → ℕ → Result TextAt OpenError → Type 0
ReadsText file at result = UnlessRefused result
    (λ found. FitsRecord found.text × (drop at file ≡ with_text found.text (drop found.end file)))
    ((text rest : List ℕ) → FitsRecord text → drop at file ≢ with_text text rest)

-- three texts stand at this place, or no three do
abbrev pub ReadsTexts : List ℕ → ℕ → Result TextsAt OpenError → Type 0
ReadsTexts file at result = UnlessRefused result
    (λ found. FitsRecord found.document × FitsRecord found.operation × FitsRecord found.variables
    × (drop at file ≡ with_text found.document (with_text found.operation (with_text found.variables (drop found.end file)))))
    ((document operation variables rest : List ℕ) → FitsRecord document → FitsRecord operation → FitsRecord variables
    → drop at file ≢ with_text document (with_text operation (with_text variables rest)))

-- the record can follow one with this number
abbrev pub CanStand : ℕ → StoredRow → Type 0
CanStand low stored = (low < stored.row.seq) × (stored.row.seq < 2 ^ 63)
    × FitsRecord stored.row.document × FitsRecord stored.row.operation × FitsRecord stored.row.variables

-- the record that was found
abbrev pub stored_of : RecordAt → StoredRow
stored_of found = record { state = found.state; row = found.row }

-- a record that can follow stands at this place, or none does
abbrev pub ReadsRecord : List ℕ → ℕ → ℕ → Result RecordAt OpenError → Type 0
ReadsRecord file at low result = UnlessRefused result
    (λ found. CanStand low (stored_of found) × (drop at file ≡ with_record (stored_of found) (drop found.end file)))
    ((stored : StoredRow) (rest : List ℕ) → CanStand low stored → drop at file ≢ with_record stored rest)

-- its rows are in order, and their places lie before the next commit byte
pub record IsSound (so_far : ChainSoFar) : Type 0 where
  pub rising : RiseBetween 0 so_far.greatest so_far.rows.items
  pub counts : length so_far.places.items ≡ length so_far.rows.items
  pub start : 8 ≤ so_far.commit
  pub inside : All (λ place. place < so_far.commit) so_far.places.items

-- these records of the file are what was read
pub record IsRead (file : List ℕ) (chain : List StoredRow) (so_far : ChainSoFar) : Type 0 where
  pub bytes : file ≡ magic ++ with_chain chain (drop so_far.commit file)
  pub order : AreInOrder 0 chain
  pub held : so_far.rows.items ≡ held_rows chain
  pub at : so_far.places.items ≡ state_places 8 chain
  pub last : so_far.greatest ≡ last_number 0 chain
  pub behind : so_far.commit + 1 ≡ end_of chain

-- a record was added to what was read
pub record AddsRecord (old new : ChainSoFar) (found : RecordAt) : Type 0 where
  pub rows : new.rows.items ≡ old.rows.items ++ held_rows (stored_of found ∷ [])
  pub places : new.places.items ≡ old.places.items ++ state_places old.commit (stored_of found ∷ [])
  pub commit : new.commit ≡ found.end
  pub greatest : new.greatest ≡ found.row.seq

-- the byte at this place is 1, or it isn't
abbrev pub ReadsCommit : List ℕ → ℕ → Bool → Type 0
ReadsCommit file at true = drop at file ≡ 1 ∷ drop (at + 1) file
ReadsCommit file at false = (x : ℕ) × (x ≢ 1) × (drop at file ≡ x ∷ drop (at + 1) file)

-- no queue file reads so
abbrev pub IsNoQueueFile : List ℕ → Type 0
IsNoQueueFile file = (chain : List StoredRow) → IsQueueFile file chain → ⊥

-- one record more was read, or the chain's end, or it is no chain
abbrev pub ReadsLink : List ℕ → List StoredRow → ChainSoFar → Result Bool OpenError → Type 0
ReadsLink file chain new (Ok true) = (stored : StoredRow) × IsRead file (chain ++ stored ∷ []) new
ReadsLink file chain new (Ok false) = IsRead file chain new × IsQueueFile file chain
ReadsLink file chain new (Err NotAJournal) = IsNoQueueFile file
ReadsLink file chain new (Err Memory) = ⊤
ReadsLink file chain new (Err Failed) = ⊤

-- the whole chain was read, or it is no queue file
abbrev pub ReadsChain : List ℕ → Result ChainSoFar OpenError → Type 0
ReadsChain file result = UnlessRefused result
    (λ read. (chain : List StoredRow) × IsRead file chain read × IsQueueFile file chain)
    (IsNoQueueFile file)
