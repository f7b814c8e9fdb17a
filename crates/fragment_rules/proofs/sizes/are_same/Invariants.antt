use Rattle.std.proofs.Common.{◌≡◌, take}
use Rattle.fragment_rules.proofs.sizes.are_same.Given as goal

abbrev pub invariant-sizes : goal.invariant-sizes
invariant-sizes l = take l.i l.xs ≡ take l.i l.ys
