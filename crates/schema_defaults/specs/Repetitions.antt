-- Names that stand twice in a list.
use Rattle.std.specs.List.{list_any}
use Rattle.std.specs.Prelude.{ℕ, Bool, List, [], ◌∷◌, Option, None, Some, cond, bytes_eq}
use Rattle.schema_rules.specs.Lines.{Mark, earlier, least_by}

-- the line of the second name, where the two names are the same
abbrev pub same_name : Mark → Mark → Option ℕ
same_name a b = cond (bytes_eq b.0 a.0) (Some b.1) None

-- the least line of a name that stands before it in the list too
abbrev pub repeated : List Mark → Option ℕ
repeated [] = None
repeated (m ∷ ms) = earlier (least_by (same_name m) ms) (repeated ms)

-- whether a name is among the marks
abbrev pub meets : List ℕ → List Mark → Bool
meets name marks = list_any (λ m. bytes_eq name m.0) marks
