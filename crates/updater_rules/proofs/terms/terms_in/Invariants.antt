use Rattle.std.proofs.Common.{◌≡◌, []}
use Rattle.toml.specs.View.{members_view}
use Rattle.rules_model.specs.Terms.{terms_onto}
use Rattle.rules_model.specs.Toml.{pairs_in}
use Rattle.updater_rules.proofs.terms.terms_in.Given as goal

abbrev pub invariant-loop-name : goal.invariant-loop-name
invariant-loop-name l = terms_onto l.terms (pairs_in (members_view l.name-iterator)) ≡ terms_onto [] (pairs_in (members_view l.table.entries))
