use Rattle.std.proofs.Common.{◌≡◌, ◌++◌, take, map}
use Rattle.gql_value.specs.Text.{joined}
use Rattle.output_lines.specs.Parts.{placed_text}
use Rattle.output_lines.proofs.cells.write_cells.Given as goal

abbrev pub invariant-loop-at : goal.invariant-loop-at
invariant-loop-at l = l.into ≡ l.initial.into ++ joined (take l.at (map placed_text l.placed-items))
