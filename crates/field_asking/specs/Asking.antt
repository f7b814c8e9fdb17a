-- What the parts of an operation that is executed stand for.
use Rattle.std.specs.Prelude.{ℕ, List, [], Option, map, bytes_eq}
use Rattle.std.specs.List.{IsDistinct}
use Rattle.std.specs.Option.{option_map_or, option_copied}
use Rattle.schema_model.specs.declared.schema.SchemaField.{SchemaField}
use Rattle.schema_model.specs.declared.schema.InputValue.{InputValue}
use Rattle.schema_model.specs.declared.schema.TypeId.{TypeId}
use Rattle.execution_model.specs.Collection.{Context}
use Rattle.execution_model.specs.Asked.{Execution, Asked}
use Rattle.checked_operation.specs.Acceptance.{execution_of}
use Rattle.field_asking.specs.declared.asking.Asking.{Asking}
use Rattle.field_asking.specs.declared.field.AskedField.{AskedField}

-- what is executed
abbrev pub executed : Asking → Execution
executed asking = execution_of asking.inputs.schema.now asking.inputs.defaults.now asking.variables.now asking.operation.now

-- what fields are collected for, for an object of this type
abbrev pub context_at : Asking → TypeId → Context
context_at asking object = record {
  schema = asking.inputs.schema.now;
  document = asking.operation.now.document;
  variables = asking.variables.now;
  object = object;
  fronts = asking.fronts.now;
}

-- a field that is asked, with what it borrows
abbrev pub asked_field : AskedField → Asked
asked_field field = record {
  key = field.key;
  name = field.name.now;
  arguments = field.arguments;
  type = option_copied field.field_type;
  sets = field.sets;
}

-- no two fields have one response key
abbrev pub HasOwnKeys : List AskedField → Type 0
HasOwnKeys fields = IsDistinct bytes_eq (map (λ f. f.key) fields)

-- the arguments that a field has, where it is defined
abbrev pub arguments_in : Option SchemaField → List (List ℕ × InputValue)
arguments_in defined = option_map_or (λ f. f.arguments) defined []
