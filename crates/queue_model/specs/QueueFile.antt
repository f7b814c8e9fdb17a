-- The file that a queue is kept in: magic, record chain, remainder.
use Rattle.std.specs.Prelude.{◌≡◌, ◌≢◌, ◌⊎◌, ℕ, ◌+◌, ◌<◌, ◌≤◌, ◌^◌, ⊤, List, [], ◌∷◌, ◌++◌, length, codes, IsUtf8, if◌then◌else◌, ◌==◌}
use Rattle.std.specs.Int.{w32, w64, to_be_bytes}
use Rattle.queue_model.specs.declared.row.Row.{Row}
use Rattle.queue_model.specs.Queue.{MutationQueue, empty_queue, end_with}

-- the first 8 bytes
abbrev pub magic : List ℕ
magic = codes "GQLGATE1"

-- a row as its record holds it: state 0 where the row is held, any other where it is done
pub record StoredRow : Type 0 where
  pub state : ℕ
  pub row : Row

-- a text with its length before it, in 4 bytes, highest first, and then what follows
abbrev pub with_text : List ℕ → List ℕ → List ℕ
with_text text rest = to_be_bytes w32 (length text) ++ (text ++ rest)

-- a record, and then what follows: the state byte, the number in 8 bytes, highest first, and the three texts
abbrev pub with_record : StoredRow → List ℕ → List ℕ
with_record stored rest =
    stored.state ∷ (to_be_bytes w64 stored.row.seq ++ with_text stored.row.document (with_text stored.row.operation (with_text stored.row.variables rest)))

-- the record chain, and then what follows: before each record stands the commit byte 1
abbrev pub with_chain : List StoredRow → List ℕ → List ℕ
with_chain [] rest = rest
with_chain (stored ∷ more) rest = 1 ∷ with_record stored (with_chain more rest)

-- a text that a record can hold
abbrev pub FitsRecord : List ℕ → Type 0
FitsRecord text = IsUtf8 text × (length text < 2 ^ 32)

-- the records' numbers rise above low and stay below 2^63, and their texts are UTF-8
abbrev pub AreInOrder : ℕ → List StoredRow → Type 0
AreInOrder low [] = ⊤
AreInOrder low (stored ∷ more) =
    (low < stored.row.seq) × (stored.row.seq < 2 ^ 63)
    × FitsRecord stored.row.document × FitsRecord stored.row.operation × FitsRecord stored.row.variables
    × AreInOrder stored.row.seq more

-- a queue file with these records: behind the chain stands a commit byte that isn't 1, and the remainder means nothing
pub record IsQueueFile (file : List ℕ) (chain : List StoredRow) : Type 0 where
  pub commit : ℕ
  pub remainder : List ℕ
  pub bytes : file ≡ magic ++ with_chain chain (commit ∷ remainder)
  pub closed : commit ≢ 1
  pub order : AreInOrder 0 chain

-- the rows whose records have state 0
abbrev pub held_rows : List StoredRow → List Row
held_rows [] = []
held_rows (stored ∷ more) = if stored.state == 0 then stored.row ∷ held_rows more else held_rows more

-- the number of the last record, which is the greatest, or low where there is none
abbrev pub last_number : ℕ → List StoredRow → ℕ
last_number low [] = low
last_number low (stored ∷ more) = last_number stored.row.seq more

-- the place behind the chain's last commit byte
abbrev pub end_of : List StoredRow → ℕ
end_of chain = 9 + length (with_chain chain [])

-- the queue of a chain
abbrev pub queue_of : List StoredRow → ℕ → MutationQueue
queue_of chain limit = record {
  rows = held_rows chain;
  end = end_with (held_rows chain) (end_of chain);
  limit = limit;
  greatest = last_number 0 chain;
}

-- the file stands for these rows: for none where it has at most 9 bytes, and else for the held rows of its chain
abbrev pub RowsOfFile : List ℕ → List Row → Type 0
RowsOfFile file rows =
    ((length file ≤ 9) × (rows ≡ [])) ⊎ ((chain : List StoredRow) × IsQueueFile file chain × (rows ≡ held_rows chain))

-- the file stands for this queue under the limit
abbrev pub QueueOfFile : List ℕ → ℕ → MutationQueue → Type 0
QueueOfFile file limit queue =
    ((length file ≤ 9) × (queue ≡ empty_queue limit))
    ⊎ ((chain : List StoredRow) × IsQueueFile file chain × (queue ≡ queue_of chain limit))
