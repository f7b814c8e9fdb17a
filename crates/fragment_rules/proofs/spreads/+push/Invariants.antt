use Rattle.std.proofs.Common.{◌≡◌, ◌++◌, map, drop}
use Rattle.std.specs.List.{flat_map}
use Rattle.check_model.specs.Spreads.{spreads_in, spreads_of_selection}
use Rattle.fragment_rules.specs.Indexes.{targets_in}
use Rattle.fragment_rules.proofs.spreads.+push.Given as goal

abbrev pub invariant-push_set-selections : goal.invariant-push_set-selections
invariant-push_set-selections l =
    l.initial.targets ++ targets_in l.index (spreads_in l.set)
    ≡ l.targets ++ targets_in l.index (flat_map (λ names. names) (map spreads_of_selection (drop l.selection-index l.selection-items)))
