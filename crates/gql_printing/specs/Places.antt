-- Documents without their places: each place is set to the first place of a text.
use Rattle.std.specs.Prelude.{List, map}
use Rattle.std.specs.Option.{option_map}
use Rattle.gql_tokens.specs.Places.{first_place}
use Rattle.gql_model.specs.declared.name.Name.{Name}
use Rattle.gql_model.specs.declared.literal.Literal.{Literal, roll-Literal}
use Rattle.gql_model.specs.declared.literal.LiteralValue.{LiteralValue, roll-LiteralValue}
use Rattle.gql_model.specs.declared.literal.ObjectField.{ObjectField, roll-ObjectField}
use Rattle.gql_model.specs.declared.literal.LiteralValue.TheOpen.{Literal-F, LiteralValue-F, ObjectField-F}
use Rattle.gql_model.specs.declared.literal.LiteralValue.TheFolds.{fold-Literal, fold-LiteralValue, fold-ObjectField}
use Rattle.gql_model.specs.declared.type_ref.TypeNode.{TypeNode}
use Rattle.gql_model.specs.declared.selection.Argument.{Argument}
use Rattle.gql_model.specs.declared.selection.Directive.{Directive}
use Rattle.gql_model.specs.declared.selection.Spread.{Spread}
use Rattle.gql_model.specs.declared.selection.SelectionSet.{SelectionSet, roll-SelectionSet}
use Rattle.gql_model.specs.declared.selection.Selection.{Selection, roll-Selection}
use Rattle.gql_model.specs.declared.selection.Field.{Field, roll-Field}
use Rattle.gql_model.specs.declared.selection.InlineFragment.{InlineFragment, roll-InlineFragment}
use Rattle.gql_model.specs.declared.selection.Selection.TheOpen.{SelectionSet-F, Selection-F, Field-F, InlineFragment-F}
use Rattle.gql_model.specs.declared.selection.Selection.TheFolds.{fold-SelectionSet, fold-Selection, fold-Field, fold-InlineFragment}
use Rattle.gql_model.specs.declared.executable.Operation.{Operation}
use Rattle.gql_model.specs.declared.executable.VariableDefinition.{VariableDefinition}
use Rattle.gql_model.specs.declared.executable.Fragment.{Fragment}
use Rattle.gql_model.specs.declared.type_system.TypeSystem.{TypeSystem}
use Rattle.gql_model.specs.declared.type_system.TypeSystemForm.{TypeSystemForm}
use Rattle.gql_model.specs.declared.type_system.TypeSystemForm.TheVariants as form
use Rattle.gql_model.specs.declared.type_system.SchemaDefinition.{SchemaDefinition}
use Rattle.gql_model.specs.declared.type_system.RootOperation.{RootOperation}
use Rattle.gql_model.specs.declared.type_system.ScalarDefinition.{ScalarDefinition}
use Rattle.gql_model.specs.declared.type_system.ObjectDefinition.{ObjectDefinition}
use Rattle.gql_model.specs.declared.type_system.FieldDefinition.{FieldDefinition}
use Rattle.gql_model.specs.declared.type_system.InputDefinition.{InputDefinition}
use Rattle.gql_model.specs.declared.type_system.UnionDefinition.{UnionDefinition}
use Rattle.gql_model.specs.declared.type_system.EnumDefinition.{EnumDefinition}
use Rattle.gql_model.specs.declared.type_system.EnumValueDefinition.{EnumValueDefinition}
use Rattle.gql_model.specs.declared.type_system.InputObjectDefinition.{InputObjectDefinition}
use Rattle.gql_model.specs.declared.type_system.DirectiveDefinition.{DirectiveDefinition}
use Rattle.gql_model.specs.declared.document.Document.{Document}
use Rattle.gql_model.specs.declared.document.Definition.{Definition}
use Rattle.gql_model.specs.declared.document.Definition.TheVariants as definition

-- a name, without places
abbrev pub bare_name : Name → Name
bare_name n = record { place = first_place; text = n.text }

-- names, without places
abbrev pub bare_names : List Name → List Name
bare_names = map bare_name

-- ---- values

-- one level of a value, without places
abbrev pub value_step : LiteralValue-F LiteralValue Literal ObjectField → LiteralValue
value_step v = roll-LiteralValue v

-- one level of a value in its place, without places
abbrev pub literal_step : Literal-F LiteralValue Literal ObjectField → Literal
literal_step l = roll-Literal (record { place = first_place; value = l.value })

-- one level of a field of an object, without places
abbrev pub object_field_step : ObjectField-F LiteralValue Literal ObjectField → ObjectField
object_field_step f = roll-ObjectField (record { name = bare_name f.name; value = f.value })

-- a value in a document, without places
abbrev pub bare_literal : Literal → Literal
bare_literal = fold-Literal LiteralValue Literal ObjectField value_step literal_step object_field_step

-- a value, without places
abbrev pub bare_value : LiteralValue → LiteralValue
bare_value = fold-LiteralValue LiteralValue Literal ObjectField value_step literal_step object_field_step

-- a field of an object, without places
abbrev pub bare_object_field : ObjectField → ObjectField
bare_object_field = fold-ObjectField LiteralValue Literal ObjectField value_step literal_step object_field_step

-- a type in a document, without places
abbrev pub bare_type : TypeNode → TypeNode
bare_type t = record { place = first_place; type_ref = t.type_ref }

-- ---- selections

-- an argument, without places
abbrev pub bare_argument : Argument → Argument
bare_argument a = record { name = bare_name a.name; value = bare_literal a.value }

-- a directive, without places
abbrev pub bare_directive : Directive → Directive
bare_directive d = record { place = first_place; name = bare_name d.name; arguments = map bare_argument d.arguments }

-- directives, without places
abbrev pub bare_directives : List Directive → List Directive
bare_directives = map bare_directive

-- a fragment spread, without places
abbrev pub bare_spread : Spread → Spread
bare_spread s = record { place = first_place; name = bare_name s.name; directives = bare_directives s.directives }

-- one level of a field, without places
abbrev pub field_step : Field-F Selection Field InlineFragment SelectionSet → Field
field_step f = roll-Field (record {
  alias = option_map bare_name f.alias;
  name = bare_name f.name;
  arguments = map bare_argument f.arguments;
  directives = bare_directives f.directives;
  selection_set = f.selection_set;
})

-- one level of an inline fragment, without places
abbrev pub inline_step : InlineFragment-F Selection Field InlineFragment SelectionSet → InlineFragment
inline_step f = roll-InlineFragment (record {
  place = first_place;
  type_condition = option_map bare_name f.type_condition;
  directives = bare_directives f.directives;
  selection_set = f.selection_set;
})

-- one level of a selection, without places
abbrev pub selection_step : Selection-F Selection Field InlineFragment SelectionSet → Selection
selection_step (Selection-F.Field field) = roll-Selection (Selection-F.Field field)
selection_step (Selection-F.Spread spread) = roll-Selection (Selection-F.Spread (bare_spread spread))
selection_step (Selection-F.Inline fragment) = roll-Selection (Selection-F.Inline fragment)

-- one level of a selection set, without places
abbrev pub set_step : SelectionSet-F Selection Field InlineFragment SelectionSet → SelectionSet
set_step s = roll-SelectionSet (record { place = first_place; selections = s.selections })

-- a selection set, without places
abbrev pub bare_set : SelectionSet → SelectionSet
bare_set = fold-SelectionSet Selection Field InlineFragment SelectionSet selection_step field_step inline_step set_step

-- a selection, without places
abbrev pub bare_selection : Selection → Selection
bare_selection = fold-Selection Selection Field InlineFragment SelectionSet selection_step field_step inline_step set_step

-- a field, without places
abbrev pub bare_field : Field → Field
bare_field = fold-Field Selection Field InlineFragment SelectionSet selection_step field_step inline_step set_step

-- an inline fragment, without places
abbrev pub bare_inline : InlineFragment → InlineFragment
bare_inline = fold-InlineFragment Selection Field InlineFragment SelectionSet selection_step field_step inline_step set_step

-- ---- operations and fragments

-- the definition of a variable, without places
abbrev pub bare_variable_definition : VariableDefinition → VariableDefinition
bare_variable_definition v = record {
  place = first_place;
  name = bare_name v.name;
  variable_type = bare_type v.variable_type;
  default = option_map bare_literal v.default;
  directives = bare_directives v.directives;
}

-- an operation, without places
abbrev pub bare_operation : Operation → Operation
bare_operation o = record {
  place = first_place;
  kind = o.kind;
  name = option_map bare_name o.name;
  variables = map bare_variable_definition o.variables;
  directives = bare_directives o.directives;
  selection_set = bare_set o.selection_set;
}

-- the definition of a fragment, without places
abbrev pub bare_fragment : Fragment → Fragment
bare_fragment f = record {
  place = first_place;
  name = bare_name f.name;
  type_condition = bare_name f.type_condition;
  directives = bare_directives f.directives;
  selection_set = bare_set f.selection_set;
}

-- ---- type system definitions

-- the type of one kind of operations, without places
abbrev pub bare_root : RootOperation → RootOperation
bare_root r = record { place = first_place; kind = r.kind; named = bare_name r.named }

-- an argument of a field or a directive, or a field of an input object, without places
abbrev pub bare_input : InputDefinition → InputDefinition
bare_input i = record {
  description = i.description;
  name = bare_name i.name;
  input_type = bare_type i.input_type;
  default = option_map bare_literal i.default;
  directives = bare_directives i.directives;
}

-- a field of an object type or an interface, without places
abbrev pub bare_field_definition : FieldDefinition → FieldDefinition
bare_field_definition f = record {
  description = f.description;
  name = bare_name f.name;
  arguments = map bare_input f.arguments;
  field_type = bare_type f.field_type;
  directives = bare_directives f.directives;
}

-- a value of an enum, without places
abbrev pub bare_enum_value : EnumValueDefinition → EnumValueDefinition
bare_enum_value v = record { description = v.description; name = bare_name v.name; directives = bare_directives v.directives }

-- root operation types, without places
abbrev pub bare_schema : SchemaDefinition → SchemaDefinition
bare_schema d = record { place = first_place; directives = bare_directives d.directives; roots = map bare_root d.roots }

-- a scalar type, without places
abbrev pub bare_scalar : ScalarDefinition → ScalarDefinition
bare_scalar d = record { name = bare_name d.name; directives = bare_directives d.directives }

-- an object type or an interface, without places
abbrev pub bare_composite : ObjectDefinition → ObjectDefinition
bare_composite d = record {
  name = bare_name d.name;
  interfaces = bare_names d.interfaces;
  directives = bare_directives d.directives;
  fields = map bare_field_definition d.fields;
}

-- a union, without places
abbrev pub bare_union : UnionDefinition → UnionDefinition
bare_union d = record { name = bare_name d.name; directives = bare_directives d.directives; members = bare_names d.members }

-- an enum, without places
abbrev pub bare_enum : EnumDefinition → EnumDefinition
bare_enum d = record { name = bare_name d.name; directives = bare_directives d.directives; values = map bare_enum_value d.values }

-- an input object type, without places
abbrev pub bare_input_object : InputObjectDefinition → InputObjectDefinition
bare_input_object d = record { name = bare_name d.name; directives = bare_directives d.directives; fields = map bare_input d.fields }

-- a directive that may stand in documents, without places
abbrev pub bare_directive_definition : DirectiveDefinition → DirectiveDefinition
bare_directive_definition d = record {
  name = bare_name d.name;
  arguments = map bare_input d.arguments;
  repeatable = d.repeatable;
  locations = bare_names d.locations;
}

-- a type system definition without its description, without places
abbrev pub bare_form : TypeSystemForm → TypeSystemForm
bare_form (form.Schema d) = form.Schema (bare_schema d)
bare_form (form.Scalar d) = form.Scalar (bare_scalar d)
bare_form (form.Object d) = form.Object (bare_composite d)
bare_form (form.Interface d) = form.Interface (bare_composite d)
bare_form (form.Union d) = form.Union (bare_union d)
bare_form (form.Enum d) = form.Enum (bare_enum d)
bare_form (form.Input d) = form.Input (bare_input_object d)
bare_form (form.Directive d) = form.Directive (bare_directive_definition d)

-- a type system definition, without places
abbrev pub bare_type_system : TypeSystem → TypeSystem
bare_type_system d = record { place = first_place; description = d.description; form = bare_form d.form }

-- ---- documents

-- a definition, without places
abbrev pub bare_definition : Definition → Definition
bare_definition (definition.Operation d) = definition.Operation (bare_operation d)
bare_definition (definition.Fragment d) = definition.Fragment (bare_fragment d)
bare_definition (definition.TypeSystem d) = definition.TypeSystem (bare_type_system d)

-- a document with each place set to the first place
abbrev pub without_places : Document → Document
without_places d = record { definitions = map bare_definition d.definitions }
