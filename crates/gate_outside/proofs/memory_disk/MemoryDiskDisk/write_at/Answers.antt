use Rattle.std.proofs.Common.{subst, reverse}
use Rattle.gate_outside.specs.Log.{MayLeave}
use Rattle.gate_outside.proofs.Torn.{write_follows}
use Rattle.gate_outside.proofs.memory_disk.MemoryDiskDisk.write_at.Goals as goal

pub returns-clause-crash : goal.returns-clause-crash
returns-clause-crash c left is =
    write_follows c.args.self.now.first c.args.self.now.log c.args.at c.args.bytes.now c.requires.start left (subst (λ d. MayLeave d.first (reverse d.log) left) c.write.ensures is)
