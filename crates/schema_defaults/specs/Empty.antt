-- S9: a type has no fields, values or members (GraphQL October 2021, 3.6 to 3.10, Type Validation).
use Rattle.std.specs.Prelude.{◌==◌, ℕ, Bool, false, length, Option, None, Some, cond}
use Rattle.schema_model.specs.declared.schema.Schema.{Schema}
use Rattle.schema_model.specs.declared.schema.TypeForm.{TypeForm}
use Rattle.schema_model.specs.declared.schema.TypeForm.TheVariants as form
use Rattle.schema_model.specs.Schemas.{NamedType}
use Rattle.schema_rules.specs.Lines.{least_by}

-- a type has none of the fields, members or values that its form asks for; a scalar has nothing to lack
abbrev pub is_empty : TypeForm → Bool
is_empty form.Scalar = false
is_empty (form.Object parts) = length parts.fields == 0
is_empty (form.Interface parts) = length parts.fields == 0
is_empty (form.Union members) = length members == 0
is_empty (form.Enum values) = length values == 0
is_empty (form.Input fields) = length fields == 0

-- the line of a type's name, where the type is empty
abbrev pub empty_type : NamedType → Option ℕ
empty_type t = cond (is_empty t.1.form) (Some t.1.line) None

-- the least line of a type without parts
abbrev pub empty_line : Schema → Option ℕ
empty_line schema = least_by empty_type schema.types
