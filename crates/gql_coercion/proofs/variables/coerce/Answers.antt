use Rattle.std.proofs.Common.{sym, ◌∙◌}
use Rattle.gql_coercion.proofs.PutLaws.{variables_put}
use Rattle.gql_coercion.proofs.variables.coerce.Goals as goal

pub returns-in-Ok-clause-exact : goal.returns-in-Ok-clause-exact
returns-in-Ok-clause-exact c = λ distinct.
    sym (variables_put c.args.inputs.now.defaults.now c.args.inputs.now.schema.now c.args.given.now c.args.declared.now distinct)
    ∙ sym c.in_ok-values.ensures
    ∙ c.in-Ok.is
