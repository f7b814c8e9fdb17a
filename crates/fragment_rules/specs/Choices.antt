-- Operations among definitions.
use Rattle.std.specs.Prelude.{Option, Some, None}
use Rattle.gql_model.specs.declared.executable.Operation.{Operation}
use Rattle.gql_model.specs.declared.document.Definition.{Definition}
use Rattle.gql_model.specs.declared.document.Definition.TheVariants as definition

-- the operation that a definition is, if it is one
abbrev pub as_operation : Definition → Option Operation
as_operation (definition.Operation d) = Some d
as_operation _ = None
