use Rattle.std.proofs.Common.{◌≡◌, length}
use Rattle.http_model.specs.Heads.{skip_empty_lines}
use Rattle.head_scan.proofs.lines.behind_empty_lines.Given as goal

abbrev pub invariant-lines : goal.invariant-lines
invariant-lines l = skip_empty_lines l.rest ≡ skip_empty_lines l.bytes

abbrev pub decreases-lines : goal.decreases-lines
decreases-lines l = length l.rest
