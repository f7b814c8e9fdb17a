use Rattle.std.proofs.Common.{◌≡◌, take}
use Rattle.fragment_rules.specs.Tables.{unsized_table}
use Rattle.fragment_rules.proofs.sizes.first_table.Given as goal

abbrev pub invariant-definitions : goal.invariant-definitions
invariant-definitions l = l.table ≡ unsized_table (take l._definition-index l.definitions)
