use Rattle.std.proofs.Common.{◌≡◌, ◌++◌, map}
use Rattle.stream_core.specs.declared.signal.Signal.TheVariants.{Push}
use Rattle.stream_core.specs.Stages.{numbered}
use Rattle.stream_core.proofs.share.push_numbered.Given as goal

abbrev pub invariant-loop-number : goal.invariant-loop-number
invariant-loop-number g l = l.out.items ≡ l.fn.out.items ++ map Push (numbered l.item l.number)
