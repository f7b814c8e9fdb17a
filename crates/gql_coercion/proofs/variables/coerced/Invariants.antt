use Rattle.std.proofs.Common.{◌≡◌, [], drop}
use Rattle.execution_model.specs.Variables.{coerced_variables}
use Rattle.gql_coercion.specs.Coerced.{with_more}
use Rattle.gql_coercion.proofs.variables.coerced.Given as goal

abbrev pub invariant-declared : goal.invariant-declared
invariant-declared l =
    with_more [] (coerced_variables l.inputs.defaults.now l.inputs.schema.now l.given l.declared)
    ≡ with_more l.values (coerced_variables l.inputs.defaults.now l.inputs.schema.now l.given (drop l.variable-index l.declared))
