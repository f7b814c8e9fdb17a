use Rattle.std.proofs.Common.{length}
use Rattle.gate_outside.specs.Disk.{IsTorn}
use Rattle.queue_journal.proofs.Runs.{whole_torn, torn_call, then_quiet}
use Rattle.queue_journal.proofs.steps.write_synced.Goals as goal

pub returns-in_err-write_at-clause-crash : goal.returns-in_err-write_at-clause-crash
returns-in_err-write_at-clause-crash g c =
    torn_call g.D.Disk.may_leave g.D.Disk.moment g.D.Disk.left_since g.met.D.Disk.only_now (IsTorn c.args.at (length c.args.bytes.now)) (whole_torn _ _) _ _ c.write_at.ensures.time c.write_at.ensures.crash

pub returns-in_err-sync-clause-crash : goal.returns-in_err-sync-clause-crash
returns-in_err-sync-clause-crash g c =
    then_quiet g.D.Disk.may_leave g.D.Disk.moment g.D.Disk.left_since g.met.D.Disk.only_now (IsTorn c.args.at (length c.args.bytes.now)) (whole_torn _ _) _ _ _
    c.write_at.ensures.time c.write_at.ensures.crash c.sync.ensures.time c.sync.ensures.crash

pub returns-clause-crash : goal.returns-clause-crash
returns-clause-crash g c =
    then_quiet g.D.Disk.may_leave g.D.Disk.moment g.D.Disk.left_since g.met.D.Disk.only_now (IsTorn c.args.at (length c.args.bytes.now)) (whole_torn _ _) _ _ _
    c.write_at.ensures.time c.write_at.ensures.crash c.sync.ensures.time c.sync.ensures.crash
