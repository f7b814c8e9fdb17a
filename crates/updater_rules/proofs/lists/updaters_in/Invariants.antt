use Rattle.std.proofs.Common.{◌≡◌, [], drop}
use Rattle.toml.specs.View.{items_view}
use Rattle.rules_model.specs.Judgement.{updaters_onto}
use Rattle.rules_model.specs.Toml.{items_in}
use Rattle.updater_rules.proofs.lists.updaters_in.Given as goal

abbrev pub invariant-loop-node : goal.invariant-loop-node
invariant-loop-node l =
    updaters_onto l.schema l.updaters (items_in (items_view (drop l.node-index l.node-items))) ≡ updaters_onto l.schema [] (items_in (items_view l.node-items))
