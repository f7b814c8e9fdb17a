-- Schemas whose defaults have values: where no default has itself filled in, the rounds settle.
use Rattle.std.specs.Prelude.{◌≡◌, ℕ, true, List, Some, None, Ok, slice_get}
use Rattle.std.specs.List.{AllByRecursion}
use Rattle.text_types.specs.Names.{HasDistinctNames}
use Rattle.schema_model.specs.declared.schema.Schema.{Schema}
use Rattle.schema_model.specs.declared.schema.InputValue.{InputValue}
use Rattle.schema_model.specs.Schemas.{NamedType}
use Rattle.schema_defaults.specs.Empty.{empty_line}
use Rattle.schema_circles.specs.Fillings.{input_fields, fills_itself_line}
use Rattle.gql_schema.specs.Texts.{schema_in}
use Rattle.execution_model.specs.Inputs.{Defaults}
use Rattle.execution_model.specs.Defaults.{AreDefaults}
use Rattle.gql_coercion.specs.Settled.{rounds, field_count}
use Rattle.default_laws.specs.Constants.{is_constant_default}

-- the type at a place among the types of a schema has an input field at a place among its fields
abbrev pub IsFieldAt : Schema → ℕ → NamedType → ℕ → List ℕ × InputValue → Type 0
IsFieldAt schema place type at field = (slice_get schema.types place ≡ Some type) × (slice_get (input_fields type.1.form) at ≡ Some field)

-- the defaults have no variables
abbrev pub HasConstantDefaults : List (List ℕ × InputValue) → Type 0
HasConstantDefaults fields = AllByRecursion (λ f. is_constant_default f.1.default ≡ true) fields

-- an input object type has distinct fields, whose defaults have no variables (GraphQL October 2021, 3.10 and 2.9)
abbrev pub IsPlain : NamedType → Type 0
IsPlain type = HasDistinctNames (input_fields type.1.form) × HasConstantDefaults (input_fields type.1.form)

-- A schema whose types have distinct names (GraphQL October 2021, 3.3), whose input object types are plain, of whose types none is empty
-- (3.6 to 3.10; S9), and in which no default of an input field has itself filled in (own rule; S9).
pub record IsSettling (schema : Schema) : Type 0 where
  pub types : HasDistinctNames schema.types
  pub plain : AllByRecursion IsPlain schema.types
  pub filled : empty_line schema ≡ None
  pub circles : fills_itself_line schema ≡ None

-- the rounds give the values of the defaults within as many rounds as there are input fields
abbrev pub RoundsSettle : Type 0
RoundsSettle = (schema : Schema) → IsSettling schema → AreDefaults schema (rounds (field_count schema.types) schema)

-- and there are no other values
abbrev pub DefaultsAreOne : Type 0
DefaultsAreOne = (schema : Schema) → IsSettling schema → (one other : Defaults) → AreDefaults schema one → AreDefaults schema other → one ≡ other

-- every schema that a text gives is such a schema
abbrev pub ReadSchemasSettle : Type 0
ReadSchemasSettle = (text : List ℕ) (schema : Schema) → schema_in text ≡ Ok schema → IsSettling schema
