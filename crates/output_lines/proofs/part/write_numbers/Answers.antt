use Rattle.std.proofs.Common.{◌<◌, length, get_or, arith, append_assoc, decimal}
use Rattle.std.proofs.lemmas.List.{get_or_default}
use Rattle.output_lines.proofs.Growing.{joined-more}
use Rattle.output_lines.proofs.part.write_numbers.Goals as goal

pub loop-at-preserved : goal.loop-at-preserved
loop-at-preserved c =
    let numbers = c.as_slice-number-items.result.now in
    let i = c.loop-at.at in
    let within : i < length numbers = omega arith in
    let number = get_or numbers i 0 in
    let more = joined-more decimal numbers i number within (get_or_default numbers i 0 number within) in
    rw (c.in_ok-write_number.ensures.ok, c.in_ok-write_comma.ensures.ok, c.loop-at.invariant, more) (simp append_assoc)
