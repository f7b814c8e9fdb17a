use Rattle.std.proofs.Common.{◌≡◌, length}
use Rattle.gate_machine.specs.Keys.{same_places}
use Rattle.gate_machine.proofs.same.same_places.Given as goal

abbrev pub invariant-steps : goal.invariant-steps
invariant-steps l = same_places l.left l.right ≡ same_places l.a l.b

abbrev pub decreases-steps : goal.decreases-steps
decreases-steps l = length l.left
