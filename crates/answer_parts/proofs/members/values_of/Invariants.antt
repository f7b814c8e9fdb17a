use Rattle.std.proofs.Common.{◌≡◌, ℕ, List, drop}
use Rattle.std.specs.Option.{option_or}
use Rattle.schema_model.specs.Tables.{entry}
use Rattle.answer_parts.specs.Members.{value_in}
use Rattle.answer_parts.proofs.members.values_of.Given as goal

-- a name has the value that it has so far, or else that of the members that are left
abbrev pub invariant-members : goal.invariant-members
invariant-members l = (name : List ℕ) → option_or (value_in l.values name) (entry (drop l.member-index l.members) name) ≡ entry l.members name
