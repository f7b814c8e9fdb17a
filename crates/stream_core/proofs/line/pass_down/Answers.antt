use Rattle.std.proofs.Common.{rules}
use Rattle.stream_core.proofs.ExchangeLaws.{kept_onto, lowered_onto}
use Rattle.stream_core.proofs.Lines.{lowered_down, lowered_on}
use Rattle.stream_core.proofs.line.pass_down.Goals as goal

pub loop-flow-preserved-in-Continue-1 : goal.loop-flow-preserved-in-Continue-1
loop-flow-preserved-in-Continue-1 g c = (
  lowered_onto g.X.Op.Operation.kind c.loop-flow.yielded c.args.out.now.items c.loop-flow.out.items c.operation.new.out.items c.loop-flow.invariant.0 (g.X.Exchange.awaits c.loop-flow.below) (g.X.Exchange.awaits c.operation.new.self) c.in-Down.op c.in_ok-operation-in-Down.ensures.lawful c.in-Some.flow c.in-Down.is,
  lowered_down g.X.Exchange.operates c.args.below.now c.loop-flow.yielded c.loop-flow.below c.args.out.now.items c.loop-flow.out.items c.operation.new.out.items c.loop-flow.invariant.1 c.in-Down.op c.operation.new.self c.in_ok-operation-in-Down.ensures.made c.in-Some.flow c.in-Down.is,
)

pub loop-flow-preserved : goal.loop-flow-preserved
loop-flow-preserved g c = (
  kept_onto g.X.Op.Operation.kind c.loop-flow.yielded c.args.out.now.items c.loop-flow.out.items c.push.new.self.items c.loop-flow.invariant.0 c.in-Some.flow (search rules),
  lowered_on g.X.Exchange.operates c.args.below.now c.loop-flow.yielded c.loop-flow.below c.args.out.now.items c.loop-flow.out.items c.push.new.self.items c.loop-flow.invariant.1 c.in-Some.flow c.in_default.not-Down (search rules),
)
