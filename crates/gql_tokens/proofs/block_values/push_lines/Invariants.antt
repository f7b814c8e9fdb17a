use Rattle.std.proofs.Common.{◌≡◌, ◌++◌, map, drop}
use Rattle.gql_tokens.specs.Readings.{texts, lines_left, lines_bound}
use Rattle.gql_tokens.proofs.block_values.push_lines.Given as goal

abbrev pub invariant-lines : goal.invariant-lines
invariant-lines l = texts l.lines.items ++ map (λ line. drop l.indent line) (lines_left l.left) ≡ texts l.initial.lines.items ++ map (λ line. drop l.indent line) (lines_left l.fn.others)

abbrev pub decreases-lines : goal.decreases-lines
decreases-lines l = lines_bound l.left
