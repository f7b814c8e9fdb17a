use Rattle.std.proofs.Common.{[], ap, ◌∙◌}
use Rattle.std.specs.List.{fold}
use Rattle.std.proofs.lemmas.Result.{IfOk-weaker}
use Rattle.schema_model.specs.Tables.{put}
use Rattle.execution_model.specs.Arguments.{coerced_arguments}
use Rattle.gql_coercion.proofs.PutLaws.{arguments_put}
use Rattle.gql_coercion.proofs.arguments.coerced_arguments.Goals as goal

pub returns : goal.returns
returns c =
    let defaults = c.args.inputs.now.defaults.now in
    let schema = c.args.inputs.now.schema.now in
    IfOk-weaker c.put_arguments.result _ _
    (λ members is.
    is
    ∙ ap (λ ds. fold put [] (coerced_arguments defaults schema c.args.variables.now ds c.args.arguments.now)) c.as_slice.ensures.pairs
    ∙ arguments_put defaults schema c.args.variables.now c.args.defined.now c.args.arguments.now c.as_slice.ensures.names)
    c.put_arguments.ensures
