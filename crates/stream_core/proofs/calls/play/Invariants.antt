use Rattle.std.proofs.Common.{◌≡◌, ◌++◌, List}
use Rattle.stream_core.specs.declared.phase.Phase.TheVariants.{Waiting}
use Rattle.stream_core.specs.Turns.{Within}
use Rattle.stream_core.specs.Walks.{Walk}
use Rattle.stream_core.proofs.calls.play.Given as goal

abbrev pub invariant-loop-call : goal.invariant-loop-call
invariant-loop-call g l =
    g.S.Stage.ready l.stage
    × Within (g.S.Stage.gives l.fn.stage) (g.S.Stage.gives l.stage)
    × ((given : List _) × (l.out.items ≡ l.fn.out.items ++ given) × Walk (g.S.Stage.gives l.fn.stage) Waiting l.yielded given (g.S.Stage.phase l.stage))
