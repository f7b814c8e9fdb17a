use Rattle.std.proofs.Common.{[], ap, ◌∙◌}
use Rattle.std.specs.List.{fold}
use Rattle.std.proofs.lemmas.Result.{IfOk-weaker}
use Rattle.schema_model.specs.Tables.{put}
use Rattle.execution_model.specs.Defaults.{fields_values}
use Rattle.gql_coercion.proofs.PutLaws.{fields_put}
use Rattle.gql_coercion.proofs.rounds.fields_values.Goals as goal

pub returns : goal.returns
returns c =
    let defaults = c.args.inputs.now.defaults.now in
    let schema = c.args.inputs.now.schema.now in
    IfOk-weaker c.put_fields.result _ _
    (λ values is.
    is
    ∙ ap (λ ds. fold put [] (fields_values defaults schema ds)) c.as_slice.ensures.pairs
    ∙ fields_put defaults schema c.args.fields.now c.as_slice.ensures.names)
    c.put_fields.ensures
