-- Types whose results have the same shape (GraphQL October 2021, 5.3.2, SameResponseShape).
use Rattle.std.specs.Prelude.{ℕ, Bool, true, false, ◌&&◌, ◌||◌, not, List, bytes_eq}
use Rattle.std.specs.Option.{option_map_or}
use Rattle.gql_model.specs.declared.type_ref.TypeRef.{TypeRef, out-TypeRef, fold-TypeRef}
use Rattle.gql_model.specs.declared.type_ref.TypeRef.TheOpen.{TypeRef-F}
use Rattle.schema_model.specs.declared.schema.Schema.{Schema}
use Rattle.schema_model.specs.declared.schema.TypeForm.{TypeForm}
use Rattle.schema_model.specs.declared.schema.TypeForm.TheVariants as form
use Rattle.schema_model.specs.Tables.{entry}
use Rattle.schema_rules.specs.Subtypes.{same_bool}

-- a scalar or an enum
abbrev pub is_leaf : TypeForm → Bool
is_leaf form.Scalar = true
is_leaf (form.Enum values) = true
is_leaf _ = false

-- whether a name is that of a scalar or an enum of the schema
abbrev pub names_leaf : Schema → List ℕ → Bool
names_leaf schema name = option_map_or (λ t. is_leaf t.form) (entry schema.types name) false

-- named types have the same shape where they are equal or neither is a leaf
abbrev pub same_named_shape : Schema → List ℕ → List ℕ → Bool
same_named_shape schema a b = bytes_eq a b || (not (names_leaf schema a) && not (names_leaf schema b))

-- the other is a named type too, Non-Null just where this one is, and the two names have the same shape
abbrev pub named_shape : Schema → List ℕ → Bool → TypeRef-F TypeRef → Bool
named_shape schema name required (TypeRef-F.Named other_name other) = same_bool required other && same_named_shape schema name other_name
named_shape schema name required (TypeRef-F.List inner other) = false

-- the other is a list too, Non-Null just where this one is, and its item type has the same shape
abbrev pub list_shape : (TypeRef → Bool) → Bool → TypeRef-F TypeRef → Bool
list_shape same required (TypeRef-F.Named name other) = false
list_shape same required (TypeRef-F.List inner other) = same_bool required other && same inner

-- which types have the shape of a type, where it is known of a list which types have the shape of its item type
abbrev pub shape_step : Schema → TypeRef-F (TypeRef → Bool) → TypeRef → Bool
shape_step schema (TypeRef-F.Named name required) other = named_shape schema name required (out-TypeRef other)
shape_step schema (TypeRef-F.List same required) other = list_shape same required (out-TypeRef other)

-- both are Non-Null or neither, both are lists or neither, at each depth alike, and leaves are equal
abbrev pub same_shape : Schema → TypeRef → TypeRef → Bool
same_shape schema = fold-TypeRef (TypeRef → Bool) (shape_step schema)
