use Rattle.stream_core.proofs.Chained.{chained_onto, through_within}
use Rattle.stream_core.proofs.chain.ChainStage.push.Goals as goal

pub returns-clause-ready : goal.returns-clause-ready
returns-clause-ready g c =
    let both = chained_onto (g.A.Stage.gives c.args.self.now.first) (g.B.Stage.gives c.args.self.now.second) _ _ c.requires.2 c.args.signal (g.A.Stage.phase c.push.new.self) c.new-between.result.items c.push.new.out.items c.new-between.ensures.items c.in_ok-push.ensures.turn (g.B.Stage.phase c.push_all.new.stage) c.args.out.now.items c.push_all.new.out.items c.in_ok-push_all.ensures.pushed in
    (c.in_ok-push.ensures.ready, c.in_ok-push_all.ensures.ready, both.1)

pub returns-clause-same : goal.returns-clause-same
returns-clause-same g c = through_within _ _ c.push.ensures.same _ _ c.push_all.ensures.same

pub returns-in_err-push_all-clause-same : goal.returns-in_err-push_all-clause-same
returns-in_err-push_all-clause-same g c = through_within _ _ c.push.ensures.same _ _ c.push_all.ensures.same

pub returns-in_err-push-clause-same : goal.returns-in_err-push-clause-same
returns-in_err-push-clause-same g c = through_within _ _ c.push.ensures.same (g.B.Stage.gives c.args.self.now.second) (g.B.Stage.gives c.args.self.now.second) (λ x ys ends k. k)

pub returns-clause-turn : goal.returns-clause-turn
returns-clause-turn g c =
    let both = chained_onto (g.A.Stage.gives c.args.self.now.first) (g.B.Stage.gives c.args.self.now.second) _ _ c.requires.2 c.args.signal (g.A.Stage.phase c.push.new.self) c.new-between.result.items c.push.new.out.items c.new-between.ensures.items c.in_ok-push.ensures.turn (g.B.Stage.phase c.push_all.new.stage) c.args.out.now.items c.push_all.new.out.items c.in_ok-push_all.ensures.pushed in
    both.0
