use Rattle.std.proofs.Common.{◌≡◌, drop}
use Rattle.schema_model.specs.Tables.{entry}
use Rattle.answer_parts.proofs.members.first_named.Given as goal

abbrev pub invariant-loop-member : goal.invariant-loop-member
invariant-loop-member l = entry l.members l.name ≡ entry (drop l.member-index l.members) l.name
