use Rattle.std.proofs.Common.{◌≡◌, [], drop}
use Rattle.std.specs.List.{fold, filter_map}
use Rattle.schema_model.specs.Tables.{put}
use Rattle.execution_model.specs.Defaults.{type_values}
use Rattle.gql_coercion.proofs.rounds.put_types.Given as goal

abbrev pub invariant-types : goal.invariant-types
invariant-types l =
    fold put [] (filter_map (type_values l.inputs.defaults.now l.inputs.schema.now) l.types)
    ≡ fold put l.values (filter_map (type_values l.inputs.defaults.now l.inputs.schema.now) (drop l.named-index l.types))
