use Rattle.std.proofs.Common.{◌≡◌, ◌++◌, take, map}
use Rattle.std.specs.List.{flat_map}
use Rattle.output_lines.specs.Parts.{member_text}
use Rattle.output_lines.specs.Written.{member_of}
use Rattle.output_lines.proofs.line.write_members.Given as goal

abbrev pub invariant-loop-member : goal.invariant-loop-member
invariant-loop-member l = l.into ≡ l.initial.into ++ flat_map member_text (map member_of (take l.member-index l.members))
