use Rattle.std.proofs.Common.{◌≡◌, map, take}
use Rattle.fragment_rules.specs.Tables.{definition_size, size_in}
use Rattle.fragment_rules.proofs.sizes.next_table.Given as goal

abbrev pub invariant-definitions : goal.invariant-definitions
invariant-definitions l = l.table ≡ map (definition_size (size_in l.index l.sizes)) (take l.definition-index l.definitions)
