-- Which types may stand for which (GraphQL October 2021, 3.6, IsValidImplementationFieldType and IsSubType).
use Rattle.std.specs.Prelude.{ℕ, Bool, true, false, ◌&&◌, ◌||◌, not, List, bytes_eq}
use Rattle.std.specs.Option.{option_map_or}
use Rattle.gql_model.specs.declared.type_ref.TypeRef.{TypeRef, out-TypeRef, fold-TypeRef}
use Rattle.gql_model.specs.declared.type_ref.TypeRef.TheOpen.{TypeRef-F}
use Rattle.schema_model.specs.declared.schema.Schema.{Schema}
use Rattle.schema_model.specs.Tables.{entry}
use Rattle.schema_model.specs.Possible.{implements, has_member}

-- whether the first named type is the second, implements it, or is a member of it
abbrev pub is_named_subtype : Schema → List ℕ → List ℕ → Bool
is_named_subtype schema a b =
    bytes_eq a b
    || option_map_or (λ t. implements t.form b) (entry schema.types a) false
    || option_map_or (λ t. has_member t.form a) (entry schema.types b) false

-- Non-Null may stand for what need not be
abbrev pub may_be : Bool → Bool → Bool
may_be required other = required || not other

-- a named type for a named type
abbrev pub sub_named : Schema → List ℕ → Bool → TypeRef-F TypeRef → Bool
sub_named schema name required (TypeRef-F.Named other_name other) = may_be required other && is_named_subtype schema name other_name
sub_named schema name required (TypeRef-F.List inner other) = false

-- a list for a list
abbrev pub sub_list : (TypeRef → Bool) → Bool → TypeRef-F TypeRef → Bool
sub_list fits required (TypeRef-F.Named name other) = false
sub_list fits required (TypeRef-F.List inner other) = may_be required other && fits inner

-- which types a type may stand for, where it is known of a list which types its item type may stand for
abbrev pub sub_step : Schema → TypeRef-F (TypeRef → Bool) → TypeRef → Bool
sub_step schema (TypeRef-F.Named name required) other = sub_named schema name required (out-TypeRef other)
sub_step schema (TypeRef-F.List fits required) other = sub_list fits required (out-TypeRef other)

-- whether the first type is the second or may stand for it
abbrev pub is_subtype : Schema → TypeRef → TypeRef → Bool
is_subtype schema = fold-TypeRef (TypeRef → Bool) (sub_step schema)

-- both are true, or both are false
abbrev pub same_bool : Bool → Bool → Bool
same_bool true b = b
same_bool false b = not b

-- the other is a named type of this name, and Non-Null just where this one is
abbrev pub same_named : List ℕ → Bool → TypeRef-F TypeRef → Bool
same_named name required (TypeRef-F.Named other_name other) = same_bool required other && bytes_eq name other_name
same_named name required (TypeRef-F.List inner other) = false

-- the other is a list, Non-Null just where this one is, and its item type is the same
abbrev pub same_list : (TypeRef → Bool) → Bool → TypeRef-F TypeRef → Bool
same_list same required (TypeRef-F.Named name other) = false
same_list same required (TypeRef-F.List inner other) = same_bool required other && same inner

-- which types are the same as a type, where it is known of a list which types are the same as its item type
abbrev pub same_step : TypeRef-F (TypeRef → Bool) → TypeRef → Bool
same_step (TypeRef-F.Named name required) other = same_named name required (out-TypeRef other)
same_step (TypeRef-F.List same required) other = same_list same required (out-TypeRef other)

-- whether two types are the same
abbrev pub is_same_type : TypeRef → TypeRef → Bool
is_same_type = fold-TypeRef (TypeRef → Bool) same_step
