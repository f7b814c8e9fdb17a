use Rattle.std.proofs.Common.{◌≡◌, [], drop}
use Rattle.std.specs.List.{fold}
use Rattle.schema_model.specs.Tables.{put}
use Rattle.execution_model.specs.Defaults.{fields_values}
use Rattle.gql_coercion.proofs.rounds.put_fields.Given as goal

abbrev pub invariant-fields : goal.invariant-fields
invariant-fields l =
    fold put [] (fields_values l.inputs.defaults.now l.inputs.schema.now l.fields)
    ≡ fold put l.values (fields_values l.inputs.defaults.now l.inputs.schema.now (drop l.field-index l.fields))
