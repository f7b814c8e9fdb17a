use Rattle.std.proofs.Common.{◌≡◌, ◌++◌, List}
use Rattle.stream_core.specs.Turns.{Within}
use Rattle.stream_core.specs.Walks.{Walk, pushes}
use Rattle.stream_core.proofs.chain.push_all.Given as goal

abbrev pub invariant-loop-signal : goal.invariant-loop-signal
invariant-loop-signal g l =
    g.S.Stage.ready l.stage
    × Within (g.S.Stage.gives l.fn.stage) (g.S.Stage.gives l.stage)
    × ((given : List _) × (l.out.items ≡ l.fn.out.items ++ given) × Walk (g.S.Stage.gives l.fn.stage) (g.S.Stage.phase l.fn.stage) (pushes l.yielded) given (g.S.Stage.phase l.stage))
