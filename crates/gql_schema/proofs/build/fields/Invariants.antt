use Rattle.std.proofs.Common.{◌≡◌, map}
use Rattle.schema_model.specs.Tables.{tabled}
use Rattle.gql_schema.specs.Meaning.{field_entry}
use Rattle.gql_schema.proofs.build.fields.Given as goal

abbrev pub invariant-definitions : goal.invariant-definitions
invariant-definitions l = l.table ≡ tabled (map field_entry l.yielded)
