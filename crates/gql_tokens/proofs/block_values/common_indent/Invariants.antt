use Rattle.std.proofs.Common.{◌≡◌}
use Rattle.gql_tokens.specs.Blocks.{lesser, common_indent}
use Rattle.gql_tokens.specs.Readings.{lines_left, lines_bound}
use Rattle.gql_tokens.proofs.block_values.common_indent.Given as goal

abbrev pub invariant-lines : goal.invariant-lines
invariant-lines l = lesser l.least (common_indent (lines_left l.left)) ≡ common_indent (lines_left l.fn.others)

abbrev pub decreases-lines : goal.decreases-lines
decreases-lines l = lines_bound l.left
