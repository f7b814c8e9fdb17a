use Rattle.std.proofs.Common.{◌≡◌, ◌++◌, take, map, decimal}
use Rattle.gql_value.specs.Text.{joined}
use Rattle.output_lines.proofs.part.write_numbers.Given as goal

abbrev pub invariant-loop-at : goal.invariant-loop-at
invariant-loop-at l = l.into ≡ l.initial.into ++ joined (take l.at (map decimal l.number-items))
