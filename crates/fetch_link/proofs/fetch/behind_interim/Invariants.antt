use Rattle.std.proofs.Common.{ℕ, List, length}
use Rattle.http_model.specs.Message.{BehindInterim}
use Rattle.fetch_link.proofs.fetch.behind_interim.Given as goal

abbrev pub invariant-heads : goal.invariant-heads
invariant-heads l = (seen : List ℕ) → BehindInterim seen l.initial.bytes → BehindInterim seen l.rest

abbrev pub decreases-heads : goal.decreases-heads
decreases-heads l = length l.rest
