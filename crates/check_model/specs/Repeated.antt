-- Names that stand twice in a list.
use Rattle.std.specs.Prelude.{ℕ, Bool, List, map, is_some}
use Rattle.schema_rules.specs.Lines.{Mark}
use Rattle.schema_defaults.specs.Repetitions.{repeated}

-- a name, at no line
abbrev pub at_no_line : List ℕ → Mark
at_no_line name = (name, 0)

-- whether some name stands twice in a list of names
abbrev pub stands_twice : List (List ℕ) → Bool
stands_twice names = is_some (repeated (map at_no_line names))
