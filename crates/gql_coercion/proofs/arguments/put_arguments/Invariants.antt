use Rattle.std.proofs.Common.{◌≡◌, [], drop}
use Rattle.std.specs.List.{fold}
use Rattle.schema_model.specs.Tables.{put}
use Rattle.execution_model.specs.Arguments.{coerced_arguments}
use Rattle.gql_coercion.proofs.arguments.put_arguments.Given as goal

abbrev pub invariant-defined : goal.invariant-defined
invariant-defined l =
    fold put [] (coerced_arguments l.inputs.defaults.now l.inputs.schema.now l.variables l.defined l.arguments)
    ≡ fold put l.object.members (coerced_arguments l.inputs.defaults.now l.inputs.schema.now l.variables (drop l.argument-index l.defined) l.arguments)
