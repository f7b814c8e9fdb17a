use Rattle.std.proofs.Common.{[], ◌∷◌, ◌∙◌, ap, option_map}
use Rattle.gate_outside.specs.Disk.{IsTorn, IsCutOrWhole, written}
use Rattle.queue_journal.proofs.Runs.{first_of_two, both_of_two}
use Rattle.queue_journal.proofs.steps.close_and_cut.Goals as goal

pub returns-in_err-write_synced-clause-crash : goal.returns-in_err-write_synced-clause-crash
returns-in_err-write_synced-clause-crash g c file told only =
    first_of_two g.D.Disk.may_leave g.D.Disk.moment g.D.Disk.left_since g.met.D.Disk.only_now (IsTorn 8 1) (IsCutOrWhole 9) _ _ file _ c.write_synced.ensures.crash only

pub returns-clause-crash : goal.returns-clause-crash
returns-clause-crash g c file told only =
    let later = written 8 (0 ∷ []) file in
    both_of_two g.D.Disk.may_leave g.D.Disk.moment g.D.Disk.left_since g.met.D.Disk.only_now (IsTorn 8 1) (IsCutOrWhole 9) _ _ _ file later
    c.write_synced.ensures.crash only c.cut_synced.ensures.crash
    (c.in_ok-write_synced.ensures.durable later (c.in_ok-write_synced.ensures.written ∙ ap (option_map (written 8 (0 ∷ []))) told))
