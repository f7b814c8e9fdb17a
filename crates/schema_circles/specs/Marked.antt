-- The least line among marked places.
use Rattle.std.specs.Prelude.{ℕ, Bool, List, Option, None, Some, cond}
use Rattle.std.specs.List.{zip}
use Rattle.schema_rules.specs.Lines.{least_by}

-- the line of a place that is marked
abbrev pub marked_line : Bool × ℕ → Option ℕ
marked_line p = cond p.0 (Some p.1) None

-- the least of the lines that are marked
abbrev pub least_marked : List Bool → List ℕ → Option ℕ
least_marked marks lines = least_by marked_line (zip marks lines)
