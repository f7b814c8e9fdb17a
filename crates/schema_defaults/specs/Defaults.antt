-- S9: a default doesn't fit its type, or has an object literal in which a field stands twice (GraphQL October 2021, 3.6.1 and 3.10).
use Rattle.std.specs.Prelude.{ℕ, Bool, ◌&&◌, not, List, Option, None, Some, cond}
use Rattle.std.specs.Option.{option_and_then}
use Rattle.gql_model.specs.declared.literal.Literal.{Literal}
use Rattle.schema_model.specs.declared.schema.Schema.{Schema}
use Rattle.schema_model.specs.declared.schema.SchemaField.{SchemaField}
use Rattle.schema_model.specs.declared.schema.SchemaDirective.{SchemaDirective}
use Rattle.schema_model.specs.declared.schema.InputValue.{InputValue}
use Rattle.schema_model.specs.declared.schema.TypeForm.{TypeForm}
use Rattle.schema_model.specs.declared.schema.TypeForm.TheVariants as form
use Rattle.schema_model.specs.Schemas.{NamedType}
use Rattle.schema_rules.specs.Lines.{earlier, least_by}
use Rattle.schema_defaults.specs.Fits.{literal_fits}
use Rattle.schema_defaults.specs.Doubled.{is_doubled}

-- whether a default may stand
abbrev pub is_valid : Schema → InputValue → Literal → Bool
is_valid schema input literal = literal_fits schema literal input.input_type.type_ref && not (is_doubled literal)

-- the line of an argument or input field whose default may not stand
abbrev pub unfit_input : Schema → InputValue → Option ℕ
unfit_input schema input = option_and_then (λ l. cond (is_valid schema input l) None (Some input.line)) input.default

-- the least line of such a default, among arguments or input fields
abbrev pub unfit_inputs : Schema → List (List ℕ × InputValue) → Option ℕ
unfit_inputs schema inputs = least_by (λ i. unfit_input schema i.1) inputs

-- among the arguments of fields
abbrev pub unfit_fields : Schema → List (List ℕ × SchemaField) → Option ℕ
unfit_fields schema fields = least_by (λ f. unfit_inputs schema f.1.arguments) fields

-- in a type: among its input fields, or among the arguments of its fields; other types have no defaults
abbrev pub unfit_form : Schema → TypeForm → Option ℕ
unfit_form schema (form.Object parts) = unfit_fields schema parts.fields
unfit_form schema (form.Interface parts) = unfit_fields schema parts.fields
unfit_form schema (form.Input fields) = unfit_inputs schema fields
unfit_form schema _ = None

-- among all types
abbrev pub unfit_types : Schema → List NamedType → Option ℕ
unfit_types schema types = least_by (λ t. unfit_form schema t.1.form) types

-- among the arguments of directives
abbrev pub unfit_directives : Schema → List (List ℕ × SchemaDirective) → Option ℕ
unfit_directives schema directives = least_by (λ d. unfit_inputs schema d.1.arguments) directives

-- the least line of a default that may not stand
abbrev pub unfit_line : Schema → Option ℕ
unfit_line schema = earlier (unfit_types schema schema.types) (unfit_directives schema schema.directives)
