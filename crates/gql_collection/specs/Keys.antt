-- The response keys of groups (GraphQL October 2021, 6.3.2).
use Rattle.std.specs.Prelude.{List, map, bytes_eq}
use Rattle.std.specs.List.{IsDistinct}
use Rattle.execution_model.specs.declared.group.Group.{Group}

-- no two groups have one response key
abbrev pub HasDistinctKeys : List Group → Type 0
HasDistinctKeys groups = IsDistinct bytes_eq (map (λ g. g.key) groups)
