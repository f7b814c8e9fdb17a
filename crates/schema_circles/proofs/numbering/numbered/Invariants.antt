use Rattle.std.proofs.Common.{◌≡◌, take, map}
use Rattle.std.specs.List.{range_with_len}
use Rattle.schema_circles.specs.Fillings.{first_number, field_lines}
use Rattle.schema_circles.proofs.numbering.numbered.Given as goal

abbrev pub invariant-types : goal.invariant-types
invariant-types l =
    (l.firsts ≡ map (first_number l.types) (range_with_len 0 l.named-index))
    × (l.lines ≡ field_lines (take l.named-index l.types))
