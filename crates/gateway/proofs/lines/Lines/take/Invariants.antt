use Rattle.std.proofs.Common.{◌≡◌, ◌≤◌, ℕ, List, ◌++◌, length}
use Rattle.std.specs.Io.KnownBytes.{Appends}
use Rattle.gateway.specs.Progress.{text_after, progress_after}
use Rattle.gateway.proofs.lines.Lines.take.Given as goal

abbrev pub invariant-lines : goal.invariant-lines
invariant-lines g l =
    ((run : List ℕ)
    × (l.bytes ≡ run ++ l.left)
    × Appends (g.O.Sink.held l.initial.out) (g.O.Sink.held l.out) (text_after l.initial.self run)
    × (l.self ≡ progress_after l.initial.self run))
    × (g.O.Sink.faults l.initial.out ≤ g.O.Sink.faults l.out)

abbrev pub decreases-lines : goal.decreases-lines
decreases-lines g l = length l.left
