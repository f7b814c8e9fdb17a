use Rattle.std.proofs.Common.{take}
use Rattle.fragment_rules.specs.Indexes.{Indexes}
use Rattle.fragment_rules.proofs.fragments.FragmentIndex.of.Given as goal

abbrev pub invariant-definitions : goal.invariant-definitions
invariant-definitions l = Indexes l.index (take l.place l.definition-items)
