use Rattle.std.proofs.Common.{ap, length, arith}
use Rattle.queue_journal.proofs.Openings.{begin_crash, settled_begin}
use Rattle.queue_journal.proofs.opening.begin.Goals as goal

pub returns-in_err-write_synced-clause-crash : goal.returns-in_err-write_synced-clause-crash
returns-in_err-write_synced-clause-crash g c file told =
    let short = c.requires.short file told in
    begin_crash g.D.Disk.reads g.D.Disk.kept g.D.Disk.may_leave g.D.Disk.moment g.D.Disk.left_since g.met.D.Disk.only_now _ _ file short.0 short.1 c.write_synced.ensures.crash

pub returns-clause-crash : goal.returns-clause-crash
returns-clause-crash g c file told =
    let short = c.requires.short file told in
    begin_crash g.D.Disk.reads g.D.Disk.kept g.D.Disk.may_leave g.D.Disk.moment g.D.Disk.left_since g.met.D.Disk.only_now _ _ file short.0 short.1 c.write_synced.ensures.crash

pub returns-clause-intact : goal.returns-clause-intact
returns-clause-intact g c =
    let written = c.in_ok-write_synced.ensures in
    settled_begin g.D.Disk.reads g.D.Disk.kept g.D.Disk.may_leave g.D.Disk.moment g.D.Disk.left_since g.met.D.Disk.only_now c.args.disk.now _ c.requires.short
    written.written (omega (arith, written.kept)) written.durable
    (ap (λ q. q.rows) c.new.ensures.queue) (ap (λ q. q.end) c.new.ensures.queue) (let e = ap (λ q. q.limit) c.new.ensures.queue in omega (arith, e, c.requires.high)) (ap length c.new-2.ensures.items)
