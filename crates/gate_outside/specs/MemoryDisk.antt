-- What a disk in memory keeps, and when it has room.
use Rattle.std.specs.Prelude.{◌≡◌, ℕ, ◌+◌, ◌<◌, ◌≤◌, List, [], ◌∷◌, ◌++◌, length, map, reverse, Result, MatchResult, ⊤}
use Rattle.gate_outside.specs.declared.change.Change.{Change}
use Rattle.gate_outside.specs.declared.change.Change.TheVariants as change
use Rattle.gate_outside.specs.Log.{Event, event_of, file_after}

-- the file at first, the changes in order, the bytes of all writes together, how often it failed, and its room
pub record DiskInMemory : Type 0 where
  pub first : List ℕ
  pub log : List Event
  pub held : ℕ
  pub faults : ℕ
  pub room : ℕ

-- a disk before its first call
abbrev pub undisturbed : List ℕ → ℕ → DiskInMemory
undisturbed file room = record { first = file; log = []; held = 0; faults = 0; room = room }

-- the file as it reads
abbrev pub file_of : DiskInMemory → List ℕ
file_of disk = file_after disk.first (reverse disk.log)

-- one more change, which brings so many bytes
abbrev pub with_event : DiskInMemory → Event → ℕ → DiskInMemory
with_event disk event count = record disk { log = disk.log ++ event ∷ []; held = disk.held + count }

-- room for a change up to this end of the file that brings so many bytes
abbrev pub HasRoom : DiskInMemory → ℕ → ℕ → Type 0
HasRoom disk end count = (end ≤ disk.room) × (disk.held + count ≤ disk.room) × (length disk.log < disk.room)

-- a call makes this change and leaves the count of faults, or it fails and changes nothing but that count, and only where there is no room
abbrev pub LogsOrFails : {E : Type 0} → DiskInMemory → DiskInMemory → Result (Unit {0}) E → Event → ℕ → ℕ → Type 0
LogsOrFails old new result event end count = MatchResult result (λ _. new ≡ with_event old event count)
    (λ _. (new ≡ record old { faults = new.faults }) × (HasRoom old end count → ⊥))

-- the place behind the bytes of a change, among all that were written
abbrev pub bytes_end : Change → ℕ
bytes_end (change.Wrote at from len) = from + len
bytes_end (change.CutTo len) = 0
bytes_end change.Synced = 0

-- the bytes of each change are among so many
abbrev pub AreWithin : List Change → ℕ → Type 0
AreWithin [] count = ⊤
AreWithin (c ∷ changes) count = (bytes_end c ≤ count) × AreWithin changes count

-- the file is what the changes made of the first one, and their bytes are there
pub record IsKept (first file bytes : List ℕ) (changes : List Change) : Type 0 where
  pub reads : file ≡ file_after first (reverse (map (event_of bytes) changes))
  pub within : AreWithin changes (length bytes)
