use Rattle.stream_core.proofs.Transcripts.{SilentOnto}
use Rattle.stream_core.proofs.exchange_calls.exchange_all.Given as goal

abbrev pub invariant-loop-call : goal.invariant-loop-call
invariant-loop-call g l = SilentOnto g.X.Op.Operation.kind g.X.Res.OperationResult.id (λ i. ⊥) l.yielded (g.X.Exchange.awaits l.exchange) l.fn.out.items l.out.items
