use Rattle.std.proofs.Common.{subst, reverse}
use Rattle.gate_outside.specs.Log.{MayLeave}
use Rattle.gate_outside.proofs.Torn.{sync_follows}
use Rattle.gate_outside.proofs.memory_disk.MemoryDiskDisk.sync.Goals as goal

pub returns-clause-crash : goal.returns-clause-crash
returns-clause-crash c left is =
    sync_follows c.args.self.now.first c.args.self.now.log left (subst (λ d. MayLeave d.first (reverse d.log) left) c.make_sure.ensures is)
