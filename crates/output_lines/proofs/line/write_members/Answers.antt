use Rattle.std.proofs.Common.{arith, append_assoc}
use Rattle.output_lines.specs.Parts.{member_text}
use Rattle.output_lines.specs.Written.{member_of}
use Rattle.output_lines.proofs.Growing.{members-more}
use Rattle.output_lines.proofs.line.write_members.Goals as goal

pub loop-member-preserved : goal.loop-member-preserved
loop-member-preserved c =
    let more = members-more member_text member_of c.args.members.now c.loop-member.member-index c.member-item.result (omega arith) c.member-item.is in
    rw (c.in_ok-write_member.ensures.ok, c.loop-member.invariant, more) (simp append_assoc)
