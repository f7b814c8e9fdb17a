use Rattle.std.proofs.Common.{◌≡◌, take}
use Rattle.schema_rules.specs.Lines.{least_by}
use Rattle.gql_schema.specs.Repeated.{repeated_arguments}
use Rattle.gql_schema.proofs.repeated.repeated_argument.Given as goal

abbrev pub invariant-fields : goal.invariant-fields
invariant-fields l = l.least ≡ least_by repeated_arguments (take l.field-index l.fields)
