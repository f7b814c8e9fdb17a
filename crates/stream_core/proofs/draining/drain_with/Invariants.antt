use Rattle.std.proofs.Common.{List, sum_by}
use Rattle.stream_core.specs.Drained.{Drained, Runs}
use Rattle.stream_core.proofs.draining.drain_with.Given as goal

abbrev pub invariant-loop-command : goal.invariant-loop-command
invariant-loop-command g l =
    goal.F-IsAlwaysCallable g l.f
    × ((answer : _) (last : _) (left : List _) → Drained (Runs g.F.FnMut (λ q. q.items)) l.f l.queue.items answer last left → Drained (Runs g.F.FnMut (λ q. q.items)) l.fn.f l.fn.queue.items answer last left)

abbrev pub decreases-loop-command : goal.decreases-loop-command
decreases-loop-command g l = sum_by g.C.Weighed.weight l.queue.items
