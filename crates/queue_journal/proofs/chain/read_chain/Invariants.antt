use Rattle.std.proofs.Common.{List, ◌≤◌, ◌-◌}
use Rattle.queue_model.specs.QueueFile.{StoredRow}
use Rattle.queue_journal.specs.Steps.{IsQuiet}
use Rattle.queue_journal.specs.Reading.{WhereLong, IsSound, IsRead}
use Rattle.queue_journal.proofs.chain.read_chain.Given as goal

abbrev pub invariant-records : goal.invariant-records
invariant-records g l = record {
  sound : IsSound l.chain;
  within : l.chain.commit ≤ l.length;
  read : WhereLong (g.D.Disk.reads l.fn.disk) l.length (λ file. (records : List StoredRow) × IsRead file records l.chain);
  quiet : IsQuiet g.D.Disk.reads g.D.Disk.kept g.D.Disk.may_leave g.D.Disk.moment g.D.Disk.left_since l.fn.disk l.disk;
  later : g.D.Disk.faults l.fn.disk ≤ g.D.Disk.faults l.disk;
}

abbrev pub decreases-records : goal.decreases-records
decreases-records g l = l.length - l.chain.commit
