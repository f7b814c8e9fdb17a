use Rattle.std.proofs.Common.{◌≡◌}
use Rattle.std.specs.List.{list_all}
use Rattle.toml.specs.View.{members_view}
use Rattle.rules_model.specs.Toml.{pairs_in}
use Rattle.updater_rules.specs.Keys.{knows}
use Rattle.updater_rules.proofs.known_keys.has_only.Given as goal

abbrev pub invariant-loop-key : goal.invariant-loop-key
invariant-loop-key l =
    list_all (λ p. knows l.sort p.0) (pairs_in (members_view l.key-iterator)) ≡ list_all (λ p. knows l.sort p.0) (pairs_in (members_view l.table.entries))
