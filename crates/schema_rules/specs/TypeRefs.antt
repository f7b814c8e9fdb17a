-- Types as they are written (GraphQL October 2021, 2.11).
use Rattle.std.specs.Prelude.{ℕ, Bool, List}
use Rattle.gql_model.specs.declared.type_ref.TypeRef.{TypeRef, out-TypeRef, fold-TypeRef}
use Rattle.gql_model.specs.declared.type_ref.TypeRef.TheOpen.{TypeRef-F}

-- the name of a named type; of a list, the name that stands in its item type
abbrev pub named_step : TypeRef-F (List ℕ) → List ℕ
named_step (TypeRef-F.Named name required) = name
named_step (TypeRef-F.List inner required) = inner

-- the type that is named under all lists
abbrev pub named_type : TypeRef → List ℕ
named_type = fold-TypeRef (List ℕ) named_step

-- whether a type is Non-Null
abbrev pub is_non_null_at : TypeRef-F TypeRef → Bool
is_non_null_at (TypeRef-F.Named name required) = required
is_non_null_at (TypeRef-F.List inner required) = required

-- a type is Non-Null where it ends with `!`, whatever its item type is (GraphQL October 2021, 3.12)
abbrev pub is_non_null : TypeRef → Bool
is_non_null t = is_non_null_at (out-TypeRef t)
