use Rattle.std.proofs.Common.{arith, append_assoc}
use Rattle.output_lines.specs.Parts.{link_text}
use Rattle.output_lines.proofs.Growing.{joined-more}
use Rattle.output_lines.proofs.cells.+links.Goals as goal

pub write_links-loop-at-preserved : goal.write_links-loop-at-preserved
write_links-loop-at-preserved t c =
    let more = joined-more link_text c.as_slice-link-items.result.now c.loop-at.at c.link-item.result (omega arith) c.link-item.is in
    rw (c.in_ok-write_link.ensures.ok, c.in_ok-write_comma.ensures.ok, c.loop-at.invariant, more) (simp append_assoc)
