use Rattle.std.proofs.Common.{◌≡◌, drop}
use Rattle.schema_model.specs.Tables.{entry}
use Rattle.rule_writes.specs.Views.{pairs_of}
use Rattle.rule_writes.proofs.scope.member_named.Given as goal

abbrev pub invariant-loop-member : goal.invariant-loop-member
invariant-loop-member l = entry (pairs_of l.members) l.name ≡ entry (pairs_of (drop l.member-index l.members)) l.name
