use Rattle.std.proofs.Common.{◌≡◌, map}
use Rattle.schema_model.specs.Tables.{tabled}
use Rattle.gql_schema.specs.Marks.{mark_of}
use Rattle.gql_schema.proofs.build.names.Given as goal

abbrev pub invariant-listed : goal.invariant-listed
invariant-listed l = l.table ≡ tabled (map mark_of l.yielded)
