use Rattle.gate_outside.specs.Disk.{IsCutOrWhole}
use Rattle.queue_journal.proofs.Runs.{whole_cut, torn_call, then_quiet}
use Rattle.queue_journal.proofs.steps.cut_synced.Goals as goal

pub returns-in_err-cut-clause-crash : goal.returns-in_err-cut-clause-crash
returns-in_err-cut-clause-crash g c =
    torn_call g.D.Disk.may_leave g.D.Disk.moment g.D.Disk.left_since g.met.D.Disk.only_now (IsCutOrWhole c.args.len) (whole_cut _) _ _ c.cut.ensures.time c.cut.ensures.crash

pub returns-in_err-sync-clause-crash : goal.returns-in_err-sync-clause-crash
returns-in_err-sync-clause-crash g c =
    then_quiet g.D.Disk.may_leave g.D.Disk.moment g.D.Disk.left_since g.met.D.Disk.only_now (IsCutOrWhole c.args.len) (whole_cut _) _ _ _
    c.cut.ensures.time c.cut.ensures.crash c.sync.ensures.time c.sync.ensures.crash

pub returns-clause-crash : goal.returns-clause-crash
returns-clause-crash g c =
    then_quiet g.D.Disk.may_leave g.D.Disk.moment g.D.Disk.left_since g.met.D.Disk.only_now (IsCutOrWhole c.args.len) (whole_cut _) _ _ _
    c.cut.ensures.time c.cut.ensures.crash c.sync.ensures.time c.sync.ensures.crash
