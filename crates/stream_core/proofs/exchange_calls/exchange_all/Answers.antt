use Rattle.stream_core.proofs.Transcripts.{no_calls, sent_down, handed_up}
use Rattle.stream_core.proofs.exchange_calls.exchange_all.Goals as goal

pub loop-call-init : goal.loop-call-init
loop-call-init g c = no_calls g.X.Op.Operation.kind g.X.Res.OperationResult.id (g.X.Exchange.awaits c.args.exchange.now) c.args.out.now.items

pub loop-call-preserved-in-Continue-1 : goal.loop-call-preserved-in-Continue-1
loop-call-preserved-in-Continue-1 g c = sent_down g.X.Op.Operation.kind g.X.Res.OperationResult.id (λ i. ⊥) c.loop-call.yielded (g.X.Exchange.awaits c.loop-call.exchange) (g.X.Exchange.awaits c.operation.new.self) c.args.out.now.items c.loop-call.out.items c.operation.new.out.items c.loop-call.invariant c.in-Operation.op c.in_ok-operation-in-Operation.ensures.lawful c.in-Some.call c.in-Operation.is

pub loop-call-preserved : goal.loop-call-preserved
loop-call-preserved g c = handed_up g.X.Op.Operation.kind g.X.Res.OperationResult.id (λ i. ⊥) c.loop-call.yielded (g.X.Exchange.awaits c.loop-call.exchange) (g.X.Exchange.awaits c.result.new.self) c.args.out.now.items c.loop-call.out.items c.result.new.out.items c.loop-call.invariant c.in-Result.res c.in_ok-result-in-Result.ensures.lawful c.in-Some.call c.in-Result.is
