use Rattle.std.proofs.Common.{[], ap, ◌∙◌}
use Rattle.std.specs.List.{fold, filter_map}
use Rattle.std.proofs.lemmas.Result.{IfOk-weaker}
use Rattle.schema_model.specs.Tables.{put}
use Rattle.execution_model.specs.Defaults.{type_values}
use Rattle.gql_coercion.proofs.PutLaws.{types_put}
use Rattle.gql_coercion.proofs.rounds.types_values.Goals as goal

pub returns : goal.returns
returns c =
    let defaults = c.args.inputs.now.defaults.now in
    let schema = c.args.inputs.now.schema.now in
    IfOk-weaker c.put_types.result _ _
    (λ values is.
    is
    ∙ ap (λ ds. fold put [] (filter_map (type_values defaults schema) ds)) c.as_slice.ensures.pairs
    ∙ types_put defaults schema c.args.types.now c.as_slice.ensures.names)
    c.put_types.ensures
