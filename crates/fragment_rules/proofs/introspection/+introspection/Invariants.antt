use Rattle.std.proofs.Common.{◌≡◌, map, drop}
use Rattle.std.specs.List.{list_any}
use Rattle.check_model.specs.Introspection.{introspects, introspects_in_selection}
use Rattle.fragment_rules.proofs.introspection.+introspection.Given as goal

abbrev pub invariant-introspects-selections : goal.invariant-introspects-selections
invariant-introspects-selections l =
    introspects l.set ≡ list_any (λ b. b) (map introspects_in_selection (drop l.selection-index l.selection-items))
