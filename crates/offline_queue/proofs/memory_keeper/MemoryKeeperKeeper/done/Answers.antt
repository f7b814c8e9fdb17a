use Rattle.queue_model.proofs.Rises.{rise_without}
use Rattle.offline_queue.proofs.memory_keeper.MemoryKeeperKeeper.done.Goals as goal

pub returns-clause-intact : goal.returns-clause-intact
returns-clause-intact c =
    rw c.remove.ensures.queue (rise_without c.args.seq 0 c.args.self.now.greatest c.args.self.now.rows c.requires.intact)
