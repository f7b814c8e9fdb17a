use Rattle.std.proofs.Common.{◌≡◌, [], drop}
use Rattle.toml.specs.View.{items_view}
use Rattle.rules_model.specs.Judgement.{optimistic_onto}
use Rattle.rules_model.specs.Toml.{items_in}
use Rattle.updater_rules.proofs.lists.optimistic_in.Given as goal

abbrev pub invariant-loop-node : goal.invariant-loop-node
invariant-loop-node l =
    optimistic_onto l.schema l.keys l.rules (items_in (items_view (drop l.node-index l.node-items))) ≡ optimistic_onto l.schema l.keys [] (items_in (items_view l.node-items))
