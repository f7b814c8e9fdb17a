use Rattle.std.proofs.Common.{◌≡◌, ◌++◌, take, map}
use Rattle.schema_circles.proofs.numbering.with_lines.Given as goal

abbrev pub invariant-fields : goal.invariant-fields
invariant-fields l = l.all ≡ l.fn.lines ++ map (λ f. f.1.line) (take l.field-index l.fields)
