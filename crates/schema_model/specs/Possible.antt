-- Which object types a composite type stands for (GraphQL October 2021, 5.5.2.3, GetPossibleTypes).
use Rattle.std.specs.Prelude.{ℕ, Bool, true, false, ◌&&◌, ◌||◌, List, is_some, bytes_eq}
use Rattle.std.specs.List.{list_any}
use Rattle.std.specs.Option.{option_map_or}
use Rattle.schema_model.specs.declared.schema.Schema.{Schema}
use Rattle.schema_model.specs.declared.schema.TypeId.{TypeId}
use Rattle.schema_model.specs.declared.schema.TypeForm.{TypeForm}
use Rattle.schema_model.specs.declared.schema.TypeForm.TheVariants as form
use Rattle.schema_model.specs.Tables.{entry}
use Rattle.schema_model.specs.Schemas.{NamedType, type_at}

-- whether an object type or an interface declares that it implements an interface
abbrev pub implements : TypeForm → List ℕ → Bool
implements (form.Object parts) name = is_some (entry parts.interfaces name)
implements (form.Interface parts) name = is_some (entry parts.interfaces name)
implements _ name = false

-- whether a union has a member
abbrev pub has_member : TypeForm → List ℕ → Bool
has_member (form.Union members) name = is_some (entry members name)
has_member _ name = false

-- a type is an object type, as each possible type is
abbrev pub is_object : TypeForm → Bool
is_object (form.Object parts) = true
is_object _ = false

-- whether the first is an object type that is the second, implements it, or is a member of it
abbrev pub is_possible_type : NamedType → NamedType → Bool
is_possible_type object named =
    is_object object.1.form
    && (bytes_eq object.0 named.0 || implements object.1.form named.0 || has_member named.1.form object.0)

-- the same, of the types of two numbers
abbrev pub is_possible_of : Schema → TypeId → TypeId → Bool
is_possible_of schema object named =
    option_map_or (λ o. option_map_or (is_possible_type o) (type_at schema named) false) (type_at schema object) false

-- whether some object type is possible for both
abbrev pub have_common : List NamedType → NamedType → NamedType → Bool
have_common types a b = list_any (λ o. is_possible_type o a && is_possible_type o b) types

-- whether the types of two numbers have an object type in common
abbrev pub have_common_object_of : Schema → TypeId → TypeId → Bool
have_common_object_of schema a b =
    option_map_or (λ x. option_map_or (have_common schema.types x) (type_at schema b) false) (type_at schema a) false
