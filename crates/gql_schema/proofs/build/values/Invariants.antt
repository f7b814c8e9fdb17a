use Rattle.std.proofs.Common.{◌≡◌, map}
use Rattle.schema_model.specs.Tables.{tabled}
use Rattle.gql_schema.specs.Meaning.{value_entry}
use Rattle.gql_schema.proofs.build.values.Given as goal

abbrev pub invariant-definitions : goal.invariant-definitions
invariant-definitions l = l.table ≡ tabled (map value_entry l.yielded)
