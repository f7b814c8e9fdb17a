use Rattle.std.proofs.Common.{◌≡◌, ◌≤◌, ◌-◌, length, take, drop}
use Rattle.queue_journal.specs.Steps.{WhereTold, IsQuiet}
use Rattle.queue_journal.proofs.bytes.read_bytes.Given as goal

abbrev pub invariant-pieces : goal.invariant-pieces
invariant-pieces g l = record {
  within : length l.bytes.items ≤ l.count;
  read : WhereTold (g.D.Disk.reads l.initial.disk) (λ file. l.bytes.items ≡ take (length l.bytes.items) (drop l.at file));
  quiet : IsQuiet g.D.Disk.reads g.D.Disk.kept g.D.Disk.may_leave g.D.Disk.moment g.D.Disk.left_since l.initial.disk l.disk;
  later : g.D.Disk.faults l.initial.disk ≤ g.D.Disk.faults l.disk;
}

abbrev pub decreases-pieces : goal.decreases-pieces
decreases-pieces g l = l.count - length l.bytes.items
