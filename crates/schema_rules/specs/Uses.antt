-- Where a schema names types, and what for (GraphQL October 2021, 3.4.2, 3.6 to 3.10).
use Rattle.std.specs.Prelude.{ℕ, List, Option, None}
use Rattle.gql_model.specs.declared.type_ref.TypeNode.{TypeNode}
use Rattle.schema_model.specs.declared.schema.Schema.{Schema}
use Rattle.schema_model.specs.declared.schema.SchemaField.{SchemaField}
use Rattle.schema_model.specs.declared.schema.SchemaDirective.{SchemaDirective}
use Rattle.schema_model.specs.declared.schema.InputValue.{InputValue}
use Rattle.schema_model.specs.declared.schema.Interfaced.{Interfaced}
use Rattle.schema_model.specs.declared.schema.TypeForm.{TypeForm}
use Rattle.schema_model.specs.declared.schema.TypeForm.TheVariants as form
use Rattle.schema_model.specs.Schemas.{NamedType}
use Rattle.schema_rules.specs.declared.uses.Role.{Role}
use Rattle.schema_rules.specs.declared.uses.Role.TheVariants as role
use Rattle.schema_rules.specs.Lines.{Mark, earlier, least_by}
use Rattle.schema_rules.specs.TypeRefs.{named_type}

-- the line of a name in a role, where that is a fault
abbrev pub Judgement : Type 0
Judgement = Role → List ℕ → ℕ → Option ℕ

-- a type as it is written: what is judged is the name under all lists, at its line
abbrev pub at_type : Judgement → Role → TypeNode → Option ℕ
at_type judged role t = judged role (named_type t.type_ref) t.place.row

-- a name that stands by itself, at its line
abbrev pub at_name : Judgement → Role → Mark → Option ℕ
at_name judged role m = judged role m.0 m.1

-- an argument or an input field
abbrev pub at_input : Judgement → List ℕ × InputValue → Option ℕ
at_input judged input = at_type judged role.Input input.1.input_type

-- a field, and its arguments
abbrev pub at_field : Judgement → List ℕ × SchemaField → Option ℕ
at_field judged field = earlier (at_type judged role.Output field.1.field_type) (least_by (at_input judged) field.1.arguments)

-- the interfaces and fields of a type
abbrev pub at_parts : Judgement → Interfaced → Option ℕ
at_parts judged parts = earlier (least_by (at_name judged role.Interface) parts.interfaces) (least_by (at_field judged) parts.fields)

-- all that a type of this form names; scalars and enums name no types
abbrev pub at_form : Judgement → TypeForm → Option ℕ
at_form judged form.Scalar = None
at_form judged (form.Object parts) = at_parts judged parts
at_form judged (form.Interface parts) = at_parts judged parts
at_form judged (form.Union members) = least_by (at_name judged role.Member) members
at_form judged (form.Enum values) = None
at_form judged (form.Input fields) = least_by (at_input judged) fields

-- the same of a type with its name
abbrev pub at_named : Judgement → NamedType → Option ℕ
at_named judged t = at_form judged t.1.form

-- the arguments of a directive
abbrev pub at_directive : Judgement → List ℕ × SchemaDirective → Option ℕ
at_directive judged d = least_by (at_input judged) d.1.arguments

-- the least line at which types and directives name a type that is judged to be a fault
abbrev pub least_use : Judgement → Schema → Option ℕ
least_use judged schema = earlier (least_by (at_named judged) schema.types) (least_by (at_directive judged) schema.directives)
