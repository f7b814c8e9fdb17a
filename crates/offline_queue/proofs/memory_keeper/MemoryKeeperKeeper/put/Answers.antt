use Rattle.std.proofs.Common.{arith}
use Rattle.queue_model.proofs.Rises.{rise_push}
use Rattle.offline_queue.proofs.memory_keeper.MemoryKeeperKeeper.put.Goals as goal

pub returns-clause-intact : goal.returns-clause-intact
returns-clause-intact c =
    rw c.in_ok-add.ensures.ok (rise_push 0 c.args.self.now.greatest c.args.self.now.rows _ c.requires (omega arith))
