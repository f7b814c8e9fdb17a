use Rattle.stream_core.proofs.Chained.{through_within}
use Rattle.stream_core.proofs.chain.ChainStage.talk.Goals as goal

pub returns-clause-same : goal.returns-clause-same
returns-clause-same g c = through_within _ _ c.talk.ensures.same _ _ c.talk-talk.ensures.same
