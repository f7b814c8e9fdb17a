-- How deep the types of a schema's fields nest, as a bound on a walk over an object's fields.
use Rattle.std.specs.Prelude.{ℕ, max, List, [], ◌∷◌, Option}
use Rattle.std.specs.Option.{option_map_or}
use Rattle.gql_model.specs.declared.type_ref.TypeRef.{TypeRef, size-TypeRef}
use Rattle.schema_model.specs.declared.schema.Schema.{Schema}
use Rattle.schema_model.specs.declared.schema.SchemaField.{SchemaField}
use Rattle.schema_model.specs.declared.schema.TypeForm.{TypeForm}
use Rattle.schema_model.specs.declared.schema.TypeForm.TheVariants as form
use Rattle.schema_model.specs.Schemas.{NamedType}

-- the greatest depth of the types of some fields
unfoldable pub fields_height : List (List ℕ × SchemaField) → ℕ
fields_height [] = 0
fields_height (f ∷ fs) = max (size-TypeRef f.1.field_type.type_ref) (fields_height fs)

-- the greatest depth of the field types of an object type or an interface; 0 for any other type
abbrev pub form_height : TypeForm → ℕ
form_height (form.Object parts) = fields_height parts.fields
form_height (form.Interface parts) = fields_height parts.fields
form_height _ = 0

-- the greatest depth of the field types of all these types
unfoldable pub types_height : List NamedType → ℕ
types_height [] = 0
types_height (t ∷ ts) = max (form_height t.1.form) (types_height ts)

-- the greatest depth of the types of a schema's fields
abbrev pub height : Schema → ℕ
height schema = types_height schema.types

-- how deep the type of a field nests, where it has one
abbrev pub type_height : Option TypeRef → ℕ
type_height type = option_map_or size-TypeRef type 0
