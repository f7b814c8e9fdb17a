-- S7: an interface isn't satisfied (GraphQL October 2021, 3.6 and 3.7, IsValidImplementation).
use Rattle.std.specs.Prelude.{ℕ, Bool, true, false, ◌&&◌, ◌||◌, not, List, Option, None, Some, cond, is_some, is_none, bytes_eq}
use Rattle.std.specs.List.{list_all}
use Rattle.std.specs.Option.{option_map_or}
use Rattle.schema_model.specs.declared.schema.Schema.{Schema}
use Rattle.schema_model.specs.declared.schema.SchemaField.{SchemaField}
use Rattle.schema_model.specs.declared.schema.InputValue.{InputValue}
use Rattle.schema_model.specs.declared.schema.Interfaced.{Interfaced}
use Rattle.schema_model.specs.declared.schema.TypeForm.{TypeForm}
use Rattle.schema_model.specs.declared.schema.TypeForm.TheVariants as form
use Rattle.schema_model.specs.Schemas.{NamedType}
use Rattle.schema_model.specs.Tables.{entry}
use Rattle.schema_rules.specs.Lines.{Mark, least_by}
use Rattle.schema_rules.specs.TypeRefs.{is_non_null}
use Rattle.schema_rules.specs.Subtypes.{is_subtype, is_same_type}

-- an argument or input field that has to be given: it is Non-Null and has no default
abbrev pub is_required : InputValue → Bool
is_required input = is_non_null input.input_type.type_ref && is_none input.default

-- whether a field has an argument of the interface's field, with its type
abbrev pub has_argument : SchemaField → List ℕ × InputValue → Bool
has_argument field wanted = option_map_or (λ a. is_same_type a.input_type.type_ref wanted.1.input_type.type_ref) (entry field.arguments wanted.0) false

-- whether an argument may be there: the interface's field has it, or it need not be given
abbrev pub may_have_argument : SchemaField → List ℕ × InputValue → Bool
may_have_argument wanted argument = is_some (entry wanted.arguments argument.0) || not (is_required argument.1)

-- whether a field does for the interface's field
abbrev pub does_for : Schema → SchemaField → SchemaField → Bool
does_for schema wanted field =
    is_subtype schema field.field_type.type_ref wanted.field_type.type_ref
    && list_all (has_argument field) wanted.arguments
    && list_all (may_have_argument wanted) field.arguments

-- whether a type has a field of this name, and it does for the interface's
abbrev pub has_field : Schema → Interfaced → List ℕ × SchemaField → Bool
has_field schema parts wanted = option_map_or (does_for schema wanted.1) (entry parts.fields wanted.0) false

-- whether a type itself implements an interface that its interface implements
abbrev pub has_interface : Interfaced → Mark → Bool
has_interface parts wanted = is_some (entry parts.interfaces wanted.0)

-- whether a type has all that an interface asks: its fields, and the interfaces that it implements
abbrev pub has_all : Schema → Interfaced → Interfaced → Bool
has_all schema parts wanted = list_all (has_field schema parts) wanted.fields && list_all (has_interface parts) wanted.interfaces

-- the same of an interface by its form; other types ask nothing here
abbrev pub has_all_of : Schema → Interfaced → TypeForm → Bool
has_all_of schema parts (form.Interface wanted) = has_all schema parts wanted
has_all_of schema parts _ = true

-- whether a type satisfies an interface that it names: it isn't the interface itself and has all that it asks
abbrev pub satisfies : Schema → List ℕ → Interfaced → List ℕ → Bool
satisfies schema own parts name =
    not (bytes_eq own name) && option_map_or (λ t. has_all_of schema parts t.form) (entry schema.types name) true

-- the line of an interface behind `implements` that isn't satisfied
abbrev pub unsatisfied : Schema → List ℕ → Interfaced → Mark → Option ℕ
unsatisfied schema own parts interface = cond (satisfies schema own parts interface.0) None (Some interface.1)

-- the least line of an interface behind `implements` that the type of this name and these parts doesn't satisfy
abbrev pub unsatisfied_parts : Schema → List ℕ → Interfaced → Option ℕ
unsatisfied_parts schema own parts = least_by (unsatisfied schema own parts) parts.interfaces

-- the same by the form of the type; only object types and interfaces implement anything
abbrev pub unsatisfied_form : Schema → List ℕ → TypeForm → Option ℕ
unsatisfied_form schema own (form.Object parts) = unsatisfied_parts schema own parts
unsatisfied_form schema own (form.Interface parts) = unsatisfied_parts schema own parts
unsatisfied_form schema own _ = None

-- the same of a type under its name
abbrev pub unsatisfied_in : Schema → NamedType → Option ℕ
unsatisfied_in schema t = unsatisfied_form schema t.0 t.1.form

-- the least line of an interface that isn't satisfied
abbrev pub unsatisfied_line : Schema → Option ℕ
unsatisfied_line schema = least_by (unsatisfied_in schema) schema.types
