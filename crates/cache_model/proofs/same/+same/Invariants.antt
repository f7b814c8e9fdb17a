use Rattle.std.proofs.Common.{◌≡◌, take}
use Rattle.cache_model.proofs.same.+same.Given as goal

abbrev pub invariant-same_links-loop-i : goal.invariant-same_links-loop-i
invariant-same_links-loop-i l = take l.i l.a ≡ take l.i l.b
