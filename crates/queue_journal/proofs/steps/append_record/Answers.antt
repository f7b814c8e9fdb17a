use Rattle.std.proofs.Common.{◌-◌, length, ◌∙◌, ap, option_map}
use Rattle.gate_outside.specs.Disk.{IsTorn, written}
use Rattle.queue_journal.proofs.Runs.{first_of_two, both_of_two}
use Rattle.queue_journal.proofs.steps.append_record.Goals as goal

pub returns-in_err-write_synced-clause-crash : goal.returns-in_err-write_synced-clause-crash
returns-in_err-write_synced-clause-crash g c file told only =
    first_of_two g.D.Disk.may_leave g.D.Disk.moment g.D.Disk.left_since g.met.D.Disk.only_now (IsTorn c.args.end (length c.args.bytes.now)) (IsTorn (c.args.end - 1) 1) _ _
    file _ c.write_synced.ensures.crash only

pub returns-clause-crash : goal.returns-clause-crash
returns-clause-crash g c file told only =
    let later = written c.args.end c.args.bytes.now file in
    both_of_two g.D.Disk.may_leave g.D.Disk.moment g.D.Disk.left_since g.met.D.Disk.only_now (IsTorn c.args.end (length c.args.bytes.now)) (IsTorn (c.args.end - 1) 1) _ _ _
    file later c.write_synced.ensures.crash only c.write_synced-2.ensures.crash
    (c.in_ok-write_synced.ensures.durable later (c.in_ok-write_synced.ensures.written ∙ ap (option_map (written c.args.end c.args.bytes.now)) told))
