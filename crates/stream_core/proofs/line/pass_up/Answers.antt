use Rattle.std.proofs.Common.{rules}
use Rattle.stream_core.proofs.ExchangeLaws.{no_result, none_raised, beside_onto, raised_onto}
use Rattle.stream_core.proofs.Lines.{none_up, raised_up, raised_on}
use Rattle.stream_core.proofs.line.pass_up.Goals as goal

pub loop-flow-init : goal.loop-flow-init
loop-flow-init g c = (none_raised g.A.Op.Operation.kind g.A.Res.OperationResult.id (g.A.Exchange.awaits c.args.above.now) c.args.out.now.items, none_up g.A.Exchange.answers g.B.Exchange.operates c.args.above.now c.args.below.now c.args.out.now.items)

pub loop-flow-preserved-in-Continue-branch-2 : goal.loop-flow-preserved-in-Continue-branch-2
loop-flow-preserved-in-Continue-branch-2 g c = (
  raised_onto g.A.Op.Operation.kind g.A.Res.OperationResult.id (g.A.Exchange.awaits c.args.above.now) (g.A.Exchange.awaits c.loop-flow.above) (g.A.Exchange.awaits c.result.new.self) c.loop-flow.yielded c.args.out.now.items c.loop-flow.out.items c.pass_down.new.out.items c.loop-flow.invariant.0 c.in-Up.res c.new-between.result.items c.result.new.out.items c.new-between.ensures.items c.in_ok-result-in-Up.ensures.lawful c.in_ok-pass_down-in-Up.ensures.laws c.in-Some.flow c.in-Up.is,
  raised_up g.A.Exchange.answers g.B.Exchange.operates c.args.above.now c.args.below.now c.loop-flow.yielded c.loop-flow.above c.loop-flow.below c.args.out.now.items c.loop-flow.out.items c.pass_down.new.out.items c.loop-flow.invariant.1 c.in-Up.res c.result.new.self c.new-between.result.items c.result.new.out.items c.new-between.ensures.items c.in_ok-result-in-Up.ensures.made c.pass_down.new.below c.in_ok-pass_down-in-Up.ensures.made c.in-Some.flow c.in-Up.is,
)

pub loop-flow-preserved : goal.loop-flow-preserved
loop-flow-preserved g c = (
  beside_onto g.A.Op.Operation.kind g.A.Res.OperationResult.id (g.A.Exchange.awaits c.args.above.now) (g.A.Exchange.awaits c.loop-flow.above) c.loop-flow.yielded c.args.out.now.items c.loop-flow.out.items c.push.new.self.items c.loop-flow.invariant.0 c.in-Some.flow (no_result c.in-Some.flow c.in_default.not-Up) (search rules),
  raised_on g.A.Exchange.answers g.B.Exchange.operates c.args.above.now c.args.below.now c.loop-flow.yielded c.loop-flow.above c.loop-flow.below c.args.out.now.items c.loop-flow.out.items c.push.new.self.items c.loop-flow.invariant.1 c.in-Some.flow c.in_default.not-Up (search rules),
)
