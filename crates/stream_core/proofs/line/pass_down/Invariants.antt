use Rattle.stream_core.specs.Exchanges.{PassedDownOnto, Onto}
use Rattle.stream_core.specs.Lines.{Lowers}
use Rattle.stream_core.proofs.line.pass_down.Given as goal

abbrev pub invariant-loop-flow : goal.invariant-loop-flow
invariant-loop-flow g l =
    PassedDownOnto g.X.Op.Operation.kind l.yielded l.fn.out.items l.out.items
    × Onto (Lowers g.X.Exchange.operates l.fn.below l.yielded l.below) l.fn.out.items l.out.items
