use Rattle.std.proofs.Common.{◌≡◌, map, drop}
use Rattle.std.specs.List.{list_any}
use Rattle.check_model.specs.Spreads.{spreads_in, spreads_of_selection}
use Rattle.fragment_rules.specs.Indexes.{lacks}
use Rattle.fragment_rules.proofs.spreads.+unknown.Given as goal

abbrev pub invariant-set_spreads_unknown-selections : goal.invariant-set_spreads_unknown-selections
invariant-set_spreads_unknown-selections l =
    list_any (lacks l.index) (spreads_in l.set)
    ≡ list_any (list_any (lacks l.index)) (map spreads_of_selection (drop l.selection-index l.selection-items))
