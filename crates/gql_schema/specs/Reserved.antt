-- S4: a defined name begins with two underscores (GraphQL October 2021, 2.1.9, Reserved Names).
use Rattle.std.specs.Prelude.{ℕ, Bool, List, codes, Option, None, Some, cond}
use Rattle.std.specs.Bool.{nat_eq}
use Rattle.std.specs.List.{starts_with}
use Rattle.gql_model.specs.declared.name.Name.{Name}
use Rattle.gql_model.specs.declared.type_system.FieldDefinition.{FieldDefinition}
use Rattle.gql_model.specs.declared.type_system.InputDefinition.{InputDefinition}
use Rattle.gql_model.specs.declared.type_system.EnumValueDefinition.{EnumValueDefinition}
use Rattle.gql_model.specs.declared.type_system.TypeSystemForm.{TypeSystemForm}
use Rattle.gql_model.specs.declared.type_system.TypeSystemForm.TheVariants as form
use Rattle.schema_rules.specs.Lines.{earlier, least_by}

-- the name begins with two underscores, which are for introspection alone
abbrev pub is_reserved : List ℕ → Bool
is_reserved name = starts_with nat_eq name (codes "__")

-- the line of a name, where the name is reserved
abbrev pub reserved : Name → Option ℕ
reserved name = cond (is_reserved name.text) (Some name.place.row) None

-- the line of an argument or an input field whose name is reserved
abbrev pub reserved_input : InputDefinition → Option ℕ
reserved_input input = reserved input.name

-- the line of an enum value whose name is reserved
abbrev pub reserved_value : EnumValueDefinition → Option ℕ
reserved_value value = reserved value.name

-- among the names of a field and its arguments
abbrev pub reserved_field : FieldDefinition → Option ℕ
reserved_field field = earlier (reserved field.name) (least_by reserved_input field.arguments)

-- among the names that a definition defines
abbrev pub reserved_in : TypeSystemForm → Option ℕ
reserved_in (form.Schema d) = None
reserved_in (form.Scalar d) = reserved d.name
reserved_in (form.Object d) = earlier (reserved d.name) (least_by reserved_field d.fields)
reserved_in (form.Interface d) = earlier (reserved d.name) (least_by reserved_field d.fields)
reserved_in (form.Union d) = reserved d.name
reserved_in (form.Enum d) = earlier (reserved d.name) (least_by reserved_value d.values)
reserved_in (form.Input d) = earlier (reserved d.name) (least_by reserved_input d.fields)
reserved_in (form.Directive d) = earlier (reserved d.name) (least_by reserved_input d.arguments)

-- the least line of a defined name that is reserved
abbrev pub reserved_line : List TypeSystemForm → Option ℕ
reserved_line forms = least_by reserved_in forms
