use Rattle.std.proofs.Common.{◌≡◌, drop}
use Rattle.head_scan.specs.Places.{placed}
use Rattle.head_scan.proofs.step.placed.Given as goal

abbrev pub invariant-loop-byte : goal.invariant-loop-byte
invariant-loop-byte l = placed l.place (drop l.byte-index l.bytes) ≡ placed l.fn.from l.bytes
