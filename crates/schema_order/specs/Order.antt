-- The order of a schema's definitions doesn't matter to look-ups. Definitions keep their lines here.
use Rattle.std.specs.Prelude.{◌≡◌, ℕ, List, None}
use Rattle.std.specs.List.Sorted.{IsPermutation}
use Rattle.gql_model.specs.declared.type_system.TypeSystemForm.{TypeSystemForm}
use Rattle.schema_model.specs.declared.schema.Schema.{Schema}
use Rattle.schema_model.specs.Tables.{entry}
use Rattle.gql_schema.specs.Meaning.{schema_of}
use Rattle.gql_schema.specs.Repeated.{repeated_line}

-- two schemas answer each look-up by name alike, and have the same roots
pub record LooksAlike (a b : Schema) : Type 0 where
  pub types : (name : List ℕ) → entry a.types name ≡ entry b.types name
  pub directives : (name : List ℕ) → entry a.directives name ≡ entry b.directives name
  pub roots : a.roots ≡ b.roots

-- definitions of which none stands twice, and the same in another order, make such schemas
abbrev pub OrderIsFree : Type 0
OrderIsFree =
    (forms others : List TypeSystemForm) → IsPermutation forms others → repeated_line forms ≡ None
    → LooksAlike (schema_of forms) (schema_of others)
