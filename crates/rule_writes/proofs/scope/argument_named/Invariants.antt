use Rattle.std.proofs.Common.{◌≡◌, drop}
use Rattle.schema_model.specs.Tables.{entry}
use Rattle.rule_writes.proofs.scope.argument_named.Given as goal

abbrev pub invariant-loop-argument : goal.invariant-loop-argument
invariant-loop-argument l = entry l.argument-items l.name ≡ entry (drop l.argument-index l.argument-items) l.name
