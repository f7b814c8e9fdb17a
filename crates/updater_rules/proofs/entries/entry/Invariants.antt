use Rattle.std.proofs.Common.{◌≡◌, drop}
use Rattle.schema_model.specs.Tables.{entry}
use Rattle.updater_rules.proofs.entries.entry.Given as goal

abbrev pub invariant-loop-pair : goal.invariant-loop-pair
invariant-loop-pair g l = entry l.pairs l.name ≡ entry (drop l.pair-index l.pairs) l.name
