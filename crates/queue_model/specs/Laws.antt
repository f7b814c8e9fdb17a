-- What holds of every queue file.
use Rattle.std.specs.Prelude.{◌≡◌, ℕ, List}
use Rattle.queue_model.specs.declared.row.Row.{Row}
use Rattle.queue_model.specs.QueueFile.{RowsOfFile}

-- two lists of rows that one file stands for are equal
abbrev pub StandsForOneList : Type 0
StandsForOneList = (file : List ℕ) (rows others : List Row) → RowsOfFile file rows → RowsOfFile file others → rows ≡ others
