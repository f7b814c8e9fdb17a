use Rattle.offline_queue.proofs.Puts.{put_is_held}
use Rattle.queue_tests.proofs.puts.put_once.Goals as goal

pub returns-clause-held : goal.returns-clause-held
returns-clause-held g c =
    put_is_held (g.K.Keeper.queue c.args.keeper.now) (g.K.Keeper.queue c.put-2.new.self) _ _ _ _ c.put-2.result c.put-2.ensures.answer c.put-2.ensures.queued
