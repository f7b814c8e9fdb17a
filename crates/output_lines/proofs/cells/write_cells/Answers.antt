use Rattle.std.proofs.Common.{arith, append_assoc}
use Rattle.output_lines.specs.Parts.{placed_text}
use Rattle.output_lines.proofs.Growing.{joined-more}
use Rattle.output_lines.proofs.cells.write_cells.Goals as goal

pub loop-at-preserved : goal.loop-at-preserved
loop-at-preserved c =
    let more = joined-more placed_text c.as_slice-placed-items.result.now c.loop-at.at c.placed-item.result (omega arith) c.placed-item.is in
    rw (c.in_ok-write_placed.ensures.ok, c.in_ok-write_comma.ensures.ok, c.loop-at.invariant, more) (simp append_assoc)
