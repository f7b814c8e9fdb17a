-- Between two calls a crash leaves a file of the rows that a journal holds.
use Rattle.std.specs.Prelude.{◌≡◌, ℕ, List, Option, Some}
use Rattle.std.proofs.Common.{subst, sym, inr}
use Rattle.queue_model.specs.QueueFile.{RowsOfFile}
use Rattle.queue_journal.specs.Journal.{OpenJournal, IsSettled}

pub leaves_held : {D : Type 0} (reads : D → Option (List ℕ)) (kept : D → ℕ) (may_leave : D → List ℕ → Type 0) (moment : D → ℕ) (left_since : D → ℕ → List ℕ → Type 0)
    → ((disk : D) (c : List ℕ) → left_since disk (moment disk) c → may_leave disk c)
    → (journal : OpenJournal D) → IsSettled reads kept may_leave journal → ((file : List ℕ) × (reads journal.disk ≡ Some file))
    → (c : List ℕ) → left_since journal.disk (moment journal.disk) c → RowsOfFile c journal.queue.rows
leaves_held reads kept may_leave moment left_since only_now journal settled tells c left =
    let told = settled.told tells.0 tells.1 in
    let same : c ≡ tells.0 = told.1 c (only_now journal.disk c left) in
    subst (λ f. RowsOfFile f journal.queue.rows) (sym same) (inr (told.0.0, told.0.1.bytes, told.0.1.rows))
