-- No type of a field is higher than its schema.
use Rattle.std.proofs.Common.{ℕ, zero, suc, ◌≤◌, max, List, [], ◌∷◌, arith, Bool, true, false, cond, bytes_eq}
use Rattle.std.specs.Prelude.{Option, Some, slice_get}
use Rattle.std.specs.Option.{option_map, option_and_then}
use Rattle.gql_model.specs.declared.type_ref.TypeRef.{size-TypeRef}
use Rattle.schema_model.specs.declared.schema.Schema.{Schema}
use Rattle.schema_model.specs.declared.schema.SchemaField.{SchemaField}
use Rattle.schema_model.specs.declared.schema.TypeForm.{TypeForm}
use Rattle.schema_model.specs.declared.schema.TypeForm.TheVariants as form
use Rattle.schema_model.specs.declared.schema.TypeId.{TypeId}
use Rattle.schema_model.specs.Schemas.{NamedType, field_in, field_type_of}
use Rattle.schema_model.specs.Tables.{entry}
use Rattle.answer_parts.specs.Heights.{fields_height, form_height, types_height, height, type_height}

abbrev field_height : Option SchemaField → ℕ
field_height field = type_height (option_map (λ f. f.field_type.type_ref) field)

found_case : (f : List ℕ × SchemaField) (found : Option SchemaField) (rest : ℕ) (b : Bool) → field_height found ≤ rest
    → field_height (cond b (Some f.1) found) ≤ max (size-TypeRef f.1.field_type.type_ref) rest
found_case f found rest true h = omega arith
found_case f found rest false h = omega arith

entry_low : (name : List ℕ) (fs : List (List ℕ × SchemaField)) → field_height (entry fs name) ≤ fields_height fs
unfolding fields_height
entry_low name [] = omega arith
entry_low name (f ∷ fs) = found_case f (entry fs name) (fields_height fs) (bytes_eq name f.0) (entry_low name fs)

form_low : (name : List ℕ) (form : TypeForm) → field_height (field_in form name) ≤ form_height form
form_low name form.Scalar = omega arith
form_low name (form.Object parts) = entry_low name parts.fields
form_low name (form.Interface parts) = entry_low name parts.fields
form_low name (form.Union members) = omega arith
form_low name (form.Enum values) = omega arith
form_low name (form.Input fields) = omega arith

types_low : (name : List ℕ) (ts : List NamedType) (at : ℕ) → field_height (option_and_then (λ t. field_in t.1.form name) (slice_get ts at)) ≤ types_height ts
unfolding types_height
types_low name [] at = omega arith
types_low name (t ∷ ts) zero =
    let h : field_height (field_in t.1.form name) ≤ form_height t.1.form = form_low name t.1.form in
    omega arith
types_low name (t ∷ ts) (suc at) =
    let h : field_height (option_and_then (λ u. field_in u.1.form name) (slice_get ts at)) ≤ types_height ts = types_low name ts at in
    omega arith

pub field_type_low : (schema : Schema) (parent : TypeId) (name : List ℕ) → type_height (field_type_of schema parent name) ≤ height schema
field_type_low schema parent name = types_low name schema.types parent.0
