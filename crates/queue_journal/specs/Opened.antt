-- The disk as an opening hands it back.
use Rattle.std.specs.Prelude.{Result, Ok, Err}
use Rattle.queue_journal.specs.declared.journal.Unopened.{Unopened}
use Rattle.queue_journal.specs.Journal.{OpenJournal}

-- in the journal, or with the refusal
abbrev pub disk_after : {D : Type 0} → Result (OpenJournal D) (Unopened D) → D
disk_after (Ok journal) = journal.disk
disk_after (Err refused) = refused.disk
