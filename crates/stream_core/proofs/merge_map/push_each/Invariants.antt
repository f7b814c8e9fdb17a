use Rattle.std.proofs.Common.{◌≡◌, ◌++◌, map}
use Rattle.stream_core.specs.declared.signal.Signal.TheVariants.{Push}
use Rattle.stream_core.proofs.merge_map.push_each.Given as goal

abbrev pub invariant-loop-item : goal.invariant-loop-item
invariant-loop-item g l = l.out.items ≡ l.fn.out.items ++ map Push l.yielded
