-- What an operation asks of an object (GraphQL October 2021, 6.3 and 6.4): the collected fields, each with its name,
-- its arguments' values and its type.
use Rattle.std.specs.Prelude.{ℕ, List, [], ◌∷◌, map, Option, Some, None, codes, slice_get}
use Rattle.std.specs.Option.{option_map_or, option_and_then}
use Rattle.gql_model.specs.declared.selection.Argument.{Argument}
use Rattle.gql_model.specs.declared.selection.Field.{Field, out-Field}
use Rattle.gql_model.specs.declared.type_ref.TypeRef.{TypeRef}
use Rattle.gql_model.specs.declared.executable.OperationKind.{OperationKind}
use Rattle.gql_model.specs.declared.document.Document.{Document}
use Rattle.gql_model.specs.declared.document.Definition.{Definition}
use Rattle.gql_model.specs.declared.document.Definition.TheVariants as definition
use Rattle.schema_model.specs.declared.schema.Schema.{Schema}
use Rattle.schema_model.specs.declared.schema.TypeId.{TypeId}
use Rattle.schema_model.specs.Schemas.{root_of, field_type_of}
use Rattle.gql_numbering.specs.Beginnings.{fields_of}
use Rattle.gql_numbering.specs.Marks.{definition_marks}
use Rattle.check_model.specs.FieldTypes.{arguments_on}
use Rattle.execution_model.specs.Values.{Pairs}
use Rattle.execution_model.specs.Inputs.{Defaults}
use Rattle.execution_model.specs.Arguments.{coerced_arguments}
use Rattle.execution_model.specs.Fronts.{Fronts, fronts_of}
use Rattle.execution_model.specs.declared.group.Group.{Group}
use Rattle.execution_model.specs.Collection.{SetId, collected}

-- a document under its schema, with the values of the schema's defaults, the place of the chosen operation among its definitions,
-- and the coerced values of that operation's variables
pub record Execution : Type 0 where
  pub schema : Schema
  pub defaults : Defaults
  pub document : Document
  pub operation : ℕ
  pub variables : Pairs

-- the kind of an operation; a fragment and a type system definition have none
abbrev pub kind_in : Definition → Option OperationKind
kind_in (definition.Operation d) = Some d.kind
kind_in _ = None

-- the kind of the chosen operation
abbrev pub chosen_kind : Execution → Option OperationKind
chosen_kind execution = option_and_then kind_in (slice_get execution.document.definitions execution.operation)

-- the object type of the chosen operation's root
abbrev pub root_type : Execution → Option TypeId
root_type execution = option_and_then (root_of execution.schema) (chosen_kind execution)

-- the chosen operation's own set
abbrev pub root_sets : Execution → SetId
root_sets execution = option_map_or (λ m. m.sets ∷ []) (slice_get (definition_marks execution.document) execution.operation) []

-- a collected field of an object: its response key, its name, the values of its arguments, its type where the object's type defines it,
-- and its own sets, joined
pub record Asked : Type 0 where
  pub key : List ℕ
  pub name : List ℕ
  pub arguments : Pairs
  pub type : Option TypeRef
  pub sets : SetId

-- the name and the arguments of a field, as they are written
abbrev pub Written : Type 0
Written = List ℕ × List Argument

-- those of one field; its alias isn't looked at
abbrev pub written_field : Field → Written
written_field field = ((out-Field field).name.text, (out-Field field).arguments)

-- `__typename` without arguments, as it is put at the front of a set
abbrev pub typename_written : Written
typename_written = (codes "__typename", [])

-- what is written of the first field of a group; `__typename` where it is put in
abbrev pub written_of : Document → Group → Written
written_of document group = option_map_or written_field (option_and_then (slice_get (fields_of document)) group.field) typename_written

-- what a group asks of an object of this type, where its first field has this name and these arguments
abbrev pub asked_as : Execution → TypeId → Group → Written → Asked
asked_as execution object group written = record {
  key = group.key;
  name = written.0;
  arguments = coerced_arguments execution.defaults execution.schema execution.variables (arguments_on execution.schema written.0 object) written.1;
  type = field_type_of execution.schema object written.0;
  sets = group.sets;
}

-- what a group asks of an object of this type
abbrev pub asked_of : Execution → TypeId → Group → Asked
asked_of execution object group = asked_as execution object group (written_of execution.document group)

-- what sets ask of an object of a type, where `__typename` is put at the front of these sets
abbrev pub asked_with : Fronts → Execution → TypeId → SetId → List Asked
asked_with fronts execution object sets =
    map (asked_of execution object)
    (collected (record { schema = execution.schema; document = execution.document; variables = execution.variables; object = object; fronts = fronts }) sets)

-- what the client's own selection asks of an object
abbrev pub asked_by_client : Execution → TypeId → SetId → List Asked
asked_by_client = asked_with []

-- what the operation as it is sent asks of an object
abbrev pub asked_as_sent : Execution → TypeId → SetId → List Asked
asked_as_sent execution = asked_with (fronts_of execution.schema execution.document) execution
