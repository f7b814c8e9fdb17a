-- S8: the root types (GraphQL October 2021, 3.3.1).
use Rattle.std.specs.Prelude.{ℕ, false, Option, None, Some, cond, is_some, bytes_eq, max}
use Rattle.std.specs.Option.{option_and_then, option_map_or}
use Rattle.schema_model.specs.declared.schema.Schema.{Schema}
use Rattle.schema_model.specs.declared.schema.RootName.{RootName}
use Rattle.schema_model.specs.declared.schema.RootNames.{RootNames}
use Rattle.schema_model.specs.Tables.{entry}
use Rattle.schema_rules.specs.Lines.{earlier}
use Rattle.schema_model.specs.Possible.{is_object}

-- line 0, where there is no query root
abbrev pub no_query : RootNames → Option ℕ
no_query roots = cond (is_some roots.query) None (Some 0)

-- the line of a root that isn't an object type
abbrev pub not_object : Schema → RootName → Option ℕ
not_object schema root = cond (option_map_or (λ t. is_object t.form) (entry schema.types root.text) false) None (Some root.line)

-- the same of a root that may be missing, which is no fault here
abbrev pub root_fault : Schema → Option RootName → Option ℕ
root_fault schema root = option_and_then (not_object schema) root

-- the line of the later one of two roots that are one type
abbrev pub one_type : RootName → RootName → Option ℕ
one_type a b = cond (bytes_eq a.text b.text) (Some (max a.line b.line)) None

-- the same of two roots, where both are there
abbrev pub two_roots : Option RootName → Option RootName → Option ℕ
two_roots a b = option_and_then (λ x. option_and_then (one_type x) b) a

-- a root that isn't an object type
abbrev pub roots_not_objects : Schema → RootNames → Option ℕ
roots_not_objects schema roots =
    earlier (root_fault schema roots.query) (earlier (root_fault schema roots.mutation) (root_fault schema roots.subscription))

-- one type that is two roots
abbrev pub doubled_roots : RootNames → Option ℕ
doubled_roots roots =
    earlier (two_roots roots.query roots.mutation)
    (earlier (two_roots roots.query roots.subscription) (two_roots roots.mutation roots.subscription))

-- the least line of a fault of the roots
abbrev pub root_line : Schema → Option ℕ
root_line schema = earlier (no_query schema.roots) (earlier (roots_not_objects schema schema.roots) (doubled_roots schema.roots))
