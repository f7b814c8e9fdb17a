use Rattle.std.proofs.Common.{◌≡◌, take}
use Rattle.dependents.proofs.reading.key_texts.Given as goal

abbrev pub invariant-loop-cell : goal.invariant-loop-cell
invariant-loop-cell l = l.cells ≡ take l.cell-index l.cell-items
