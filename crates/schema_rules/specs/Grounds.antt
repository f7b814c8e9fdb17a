-- The two grounds on which a type that is named may be a fault.
use Rattle.schema_model.specs.declared.schema.Schema.{Schema}
use Rattle.schema_rules.specs.declared.uses.Ground.{Ground}
use Rattle.schema_rules.specs.declared.uses.Ground.TheVariants as which
use Rattle.schema_rules.specs.Uses.{Judgement}
use Rattle.schema_rules.specs.Unknown.{unknown_type}
use Rattle.schema_rules.specs.Misplaced.{misplaced_type}

-- the fault that a ground finds: that a type doesn't exist (S5), or that it may not stand in its role (S6)
abbrev pub judgement : Schema → Ground → Judgement
judgement schema which.Unknown = unknown_type schema
judgement schema which.Misplaced = misplaced_type schema
