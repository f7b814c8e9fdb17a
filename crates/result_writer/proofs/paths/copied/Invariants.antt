use Rattle.std.proofs.Common.{◌≡◌, take}
use Rattle.result_writer.proofs.paths.copied.Given as goal

abbrev pub invariant-steps : goal.invariant-steps
invariant-steps l = l.copy.items ≡ take l.step-index l.path
