-- What an opening makes of a file.
use Rattle.std.specs.Prelude.{◌⊎◌, ℕ, ◌<◌, List, length}
use Rattle.queue_model.specs.declared.row.Row.{Row}
use Rattle.queue_model.specs.QueueFile.{RowsOfFile}
use Rattle.queue_journal.specs.Reading.{IsNoQueueFile}

-- both files stand for one list of rows
abbrev pub HaveSameRows : List ℕ → List ℕ → Type 0
HaveSameRows file other = (rows : List Row) × RowsOfFile file rows × RowsOfFile other rows

-- the file was possible before, or it has the same rows
abbrev pub WasOrSame : (List ℕ → Type 0) → List ℕ → List ℕ → Type 0
WasOrSame outcomes file c = outcomes c ⊎ HaveSameRows file c

-- the file has more than 9 bytes and is no queue file
abbrev pub IsForeign : List ℕ → Type 0
IsForeign file = (9 < length file) × IsNoQueueFile file
