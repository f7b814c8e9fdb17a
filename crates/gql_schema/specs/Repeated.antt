-- S3: a type, a directive or `schema` is defined twice, or a name stands twice in its list (GraphQL October 2021, 3.2 to 3.13).
use Rattle.std.specs.Prelude.{ℕ, List, [], ◌∷◌, ◌++◌, Option, None, codes, map}
use Rattle.std.specs.List.{flat_map}
use Rattle.std.specs.Option.{option_map, option_to_list}
use Rattle.gql_model.specs.declared.executable.OperationKind.{OperationKind}
use Rattle.gql_model.specs.declared.executable.OperationKind.TheVariants.{Query, Mutation, Subscription}
use Rattle.gql_model.specs.declared.type_system.RootOperation.{RootOperation}
use Rattle.gql_model.specs.declared.type_system.ObjectDefinition.{ObjectDefinition}
use Rattle.gql_model.specs.declared.type_system.FieldDefinition.{FieldDefinition}
use Rattle.gql_model.specs.declared.type_system.InputDefinition.{InputDefinition}
use Rattle.gql_model.specs.declared.type_system.EnumValueDefinition.{EnumValueDefinition}
use Rattle.gql_model.specs.declared.type_system.TypeSystemForm.{TypeSystemForm}
use Rattle.gql_model.specs.declared.type_system.TypeSystemForm.TheVariants as form
use Rattle.gql_schema.specs.declared.definitions.Class.{Class}
use Rattle.gql_schema.specs.declared.definitions.Class.TheVariants as class
use Rattle.schema_rules.specs.Lines.{earlier, least_by}
use Rattle.gql_schema.specs.Marks.{Mark, mark_of, type_mark, directive_mark}
use Rattle.gql_schema.specs.Ignored.{scalars}
use Rattle.schema_defaults.specs.Repetitions.{repeated}

-- the word for a kind of operations in `schema`
abbrev pub kind_word : OperationKind → List ℕ
kind_word Query = codes "query"
kind_word Mutation = codes "mutation"
kind_word Subscription = codes "subscription"

-- a root kind in `schema`, with its line
abbrev pub root_mark : RootOperation → Mark
root_mark root = (kind_word root.kind, root.place.row)

-- the name of an argument or an input field, with its line
abbrev pub input_mark : InputDefinition → Mark
input_mark input = mark_of input.name

-- the name of a field, with its line
abbrev pub field_mark : FieldDefinition → Mark
field_mark field = mark_of field.name

-- the name of an enum value, with its line
abbrev pub value_mark : EnumValueDefinition → Mark
value_mark value = mark_of value.name

-- among the arguments of a field
abbrev pub repeated_arguments : FieldDefinition → Option ℕ
repeated_arguments field = repeated (map input_mark field.arguments)

-- among the fields of a type, and among the arguments of each
abbrev pub repeated_fields : List FieldDefinition → Option ℕ
repeated_fields fields = earlier (repeated (map field_mark fields)) (least_by repeated_arguments fields)

-- in the lists of an object type or an interface
abbrev pub repeated_part : ObjectDefinition → Option ℕ
repeated_part d = earlier (repeated (map mark_of d.interfaces)) (repeated_fields d.fields)

-- in the lists of one definition
abbrev pub repeated_in : TypeSystemForm → Option ℕ
repeated_in (form.Schema d) = repeated (map root_mark d.roots)
repeated_in (form.Scalar d) = None
repeated_in (form.Object d) = repeated_part d
repeated_in (form.Interface d) = repeated_part d
repeated_in (form.Union d) = repeated (map mark_of d.members)
repeated_in (form.Enum d) = repeated (map value_mark d.values)
repeated_in (form.Input d) = repeated (map input_mark d.fields)
repeated_in (form.Directive d) = repeated (map input_mark d.arguments)

-- the names by which definitions of a class are told apart: a type's, a directive's, or the word `schema`
abbrev pub marks_of : Class → TypeSystemForm → List Mark
marks_of class.Type d = option_to_list (option_map mark_of (type_mark d))
marks_of class.Directive d = option_to_list (option_map mark_of (directive_mark d))
marks_of class.Schema (form.Schema d) = (codes "schema", d.place.row) ∷ []
marks_of class.Schema _ = []

-- the built-in scalars, which are there before the first line
abbrev pub scalar_marks : List Mark
scalar_marks = map (λ name. (name, 0)) scalars

-- the least line at which something is there twice
abbrev pub repeated_line : List TypeSystemForm → Option ℕ
repeated_line forms =
    earlier
    (earlier (repeated (scalar_marks ++ flat_map (marks_of class.Type) forms)) (repeated (flat_map (marks_of class.Directive) forms)))
    (earlier (repeated (flat_map (marks_of class.Schema) forms)) (least_by repeated_in forms))
