-- How two places of an expansion are related.
use Rattle.std.specs.Prelude.{ℕ, Bool, Option, Some, None, cond}
use Rattle.schema_model.specs.declared.schema.Schema.{Schema}
use Rattle.check_model.specs.Fields.{PlacedFields}
use Rattle.check_model.specs.MergeRules.{same_path, all_may_overlap}
use Rattle.merge_rules.specs.Rows.{above_path, above_parents}

-- nothing where their paths differ, or else whether their chains may overlap
abbrev pub kin : Schema → PlacedFields → Option ℕ → Option ℕ → Option Bool
kin schema fields a b =
    cond (same_path (above_path fields a) (above_path fields b)) (Some (all_may_overlap schema (above_parents fields a) (above_parents fields b))) None
