use Rattle.std.proofs.Common.{◌≡◌}
use Rattle.fragment_rules.specs.Tables.{table_after}
use Rattle.fragment_rules.proofs.sizes.last_table.Given as goal

abbrev pub invariant-rounds : goal.invariant-rounds
invariant-rounds l = l.table ≡ table_after l.round l.index l.definitions
