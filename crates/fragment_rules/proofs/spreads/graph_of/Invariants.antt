use Rattle.std.proofs.Common.{◌≡◌, map, take}
use Rattle.check_model.specs.Spreads.{spread_names}
use Rattle.fragment_rules.specs.Indexes.{targets_in}
use Rattle.fragment_rules.proofs.spreads.graph_of.Given as goal

abbrev pub invariant-definitions : goal.invariant-definitions
invariant-definitions l = l.graph ≡ map (λ d. targets_in l.index (spread_names d)) (take l.definition-index l.definitions)
