use Rattle.std.proofs.Common.{◌≡◌, ℕ, List, [], Some, refl, sym, subst}
use Rattle.fault_causes.specs.Crash.{LeavesOnly}
use Rattle.queue_model.specs.QueueFile.{RowsOfFile}
use Rattle.queue_journal.specs.Journal.{OpenJournal, IsSettled}
use Rattle.queue_journal.proofs.Kept.{on_ok_three}
use Rattle.queue_journal.proofs.Resets.{reset_crash, settled_reset}
use Rattle.queue_journal.proofs.journal.Journal.reset.Goals as goal

pub returns-clause-intact : goal.returns-clause-intact
returns-clause-intact g c =
    let old : OpenJournal g.row.D.Denot = record { disk = c.self.inside.disk; queue = c.self.inside.queue; places = c.self.inside.places.items } in
    let settled : IsSettled g.D.Disk.reads g.D.Disk.kept g.D.Disk.may_leave old = subst (λ j. IsSettled g.D.Disk.reads g.D.Disk.kept g.D.Disk.may_leave j) (sym c.self.view_is) c.requires.intact in
    let empty = subst (λ j. j.queue.rows ≡ []) (sym c.self.view_is) c.requires.empty in
    on_ok_three c.cut_synced.result _ _ _ _ c.cut_synced.ensures.cut c.cut_synced.ensures.kept c.cut_synced.ensures.durable (λ cut size durable.
    settled_reset g.D.Disk.reads g.D.Disk.kept g.D.Disk.may_leave g.D.Disk.moment g.D.Disk.left_since g.met.D.Disk.only_now old _ settled empty refl refl cut size durable)

pub returns-clause-crash : goal.returns-clause-crash
returns-clause-crash g c =
    let old : OpenJournal g.row.D.Denot = record { disk = c.self.inside.disk; queue = c.self.inside.queue; places = c.self.inside.places.items } in
    let settled : IsSettled g.D.Disk.reads g.D.Disk.kept g.D.Disk.may_leave old = subst (λ j. IsSettled g.D.Disk.reads g.D.Disk.kept g.D.Disk.may_leave j) (sym c.self.view_is) c.requires.intact in
    let empty = subst (λ j. j.queue.rows ≡ []) (sym c.self.view_is) c.requires.empty in
    let new : OpenJournal g.row.D.Denot = record { disk = c.cut_synced.new.disk; queue = c.self.inside.queue; places = c.self.inside.places.items } in
    subst (λ j. (file : List ℕ) → g.D.Disk.reads j.disk ≡ Some file → LeavesOnly g.D.Disk.moment g.D.Disk.left_since j.disk new.disk (λ file. RowsOfFile file [])) c.self.view_is
    (λ file told. reset_crash g.D.Disk.reads g.D.Disk.kept g.D.Disk.may_leave g.D.Disk.moment g.D.Disk.left_since g.met.D.Disk.only_now old new settled empty file told c.cut_synced.ensures.crash)
