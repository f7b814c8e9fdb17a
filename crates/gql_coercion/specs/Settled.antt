-- The values of a schema's defaults, in rounds: each fills in what the one before it gave.
use Rattle.std.specs.Prelude.{ℕ, zero, suc, ◌+◌, List, [], ◌∷◌, length}
use Rattle.schema_model.specs.declared.schema.Schema.{Schema}
use Rattle.schema_model.specs.declared.schema.TypeForm.{TypeForm}
use Rattle.schema_model.specs.declared.schema.TypeForm.TheVariants as form
use Rattle.schema_model.specs.Schemas.{NamedType}
use Rattle.execution_model.specs.Inputs.{Defaults}
use Rattle.execution_model.specs.Defaults.{values_by}

-- the values after so many rounds
abbrev pub rounds : ℕ → Schema → Defaults
rounds zero schema = []
rounds (suc n) schema = values_by (rounds n schema) schema

-- how many input fields a type has; only an input object type has any
abbrev pub form_fields : TypeForm → ℕ
form_fields (form.Input fields) = length fields
form_fields _ = 0

-- how many input fields the types have
abbrev pub field_count : List NamedType → ℕ
field_count [] = 0
field_count (type ∷ types) = form_fields type.1.form + field_count types
