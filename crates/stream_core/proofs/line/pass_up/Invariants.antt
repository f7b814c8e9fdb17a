use Rattle.stream_core.specs.Exchanges.{PassedUpOnto, Onto}
use Rattle.stream_core.specs.Lines.{Raises}
use Rattle.stream_core.proofs.line.pass_up.Given as goal

abbrev pub invariant-loop-flow : goal.invariant-loop-flow
invariant-loop-flow g l =
    PassedUpOnto g.A.Op.Operation.kind g.A.Res.OperationResult.id (g.A.Exchange.awaits l.fn.above) (g.A.Exchange.awaits l.above) l.yielded l.fn.out.items l.out.items
    × Onto (Raises g.A.Exchange.answers g.B.Exchange.operates l.fn.above l.fn.below l.yielded l.above l.below) l.fn.out.items l.out.items
