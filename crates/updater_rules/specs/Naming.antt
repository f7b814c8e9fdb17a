-- The two things that terms name: arguments of the root field, and fields of its type.
use Rattle.std.specs.Prelude.{Bool}
use Rattle.schema_model.specs.declared.schema.Schema.{Schema}
use Rattle.schema_model.specs.declared.schema.SchemaField.{SchemaField}
use Rattle.rules_model.specs.declared.term.Term.{Term}
use Rattle.rules_model.specs.Faults.{is_known_argument, is_known_member}
use Rattle.updater_rules.specs.declared.faults.Naming.{Naming}
use Rattle.updater_rules.specs.declared.faults.Naming.TheVariants as naming

-- whether what a term names of one of the two is there
abbrev pub is_known : Naming → Schema → SchemaField → Term → Bool
is_known naming.Arguments schema root term = is_known_argument root term
is_known naming.Members schema root term = is_known_member schema root term
