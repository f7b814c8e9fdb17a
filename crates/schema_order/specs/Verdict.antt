-- The order of a schema's definitions doesn't matter to the verdict: only the line that a refusal tells may differ.
use Rattle.std.specs.Prelude.{◌≡◌, ℕ, List, Option, None, Some, Result, Ok, Err, map}
use Rattle.std.specs.Option.{option_map}
use Rattle.std.specs.List.Sorted.{IsPermutation}
use Rattle.gql_model.specs.declared.type_system.TypeSystemForm.{TypeSystemForm}
use Rattle.schema_model.specs.declared.schema.Schema.{Schema}
use Rattle.schema_text.specs.Texts.{forms_of}
use Rattle.gql_schema.specs.declared.error.Refusal.{Refusal}
use Rattle.gql_schema.specs.Judged.{refusal_of}
use Rattle.gql_schema.specs.Texts.{schema_in}
use Rattle.gql_printing.specs.Places.{bare_form}

-- the code of a refusal, if there is one
abbrev pub code_of : Option Refusal → Option ℕ
code_of refusal = option_map (λ r. r.code) refusal

-- definitions in another order are accepted too, or refused with the same code
abbrev pub VerdictIsFree : Type 0
VerdictIsFree =
    (forms others : List TypeSystemForm) → IsPermutation forms others → code_of (refusal_of forms) ≡ code_of (refusal_of others)

-- the same where the definitions of two texts are the same in another order once places are set aside, so that each may stand at another line
abbrev pub PlacesAreFree : Type 0
PlacesAreFree =
    (forms others : List TypeSystemForm) → IsPermutation (map bare_form forms) (map bare_form others)
    → code_of (refusal_of forms) ≡ code_of (refusal_of others)

-- the code that refuses a text, if it gives no schema
abbrev pub code_in : Result Schema Refusal → Option ℕ
code_in (Ok schema) = None
code_in (Err refusal) = Some refusal.code

-- two texts that hold the same definitions in another order, places aside, both give a schema or are refused with the same code
abbrev pub TextsAreFree : Type 0
TextsAreFree =
    (text other : List ℕ) (forms others : List TypeSystemForm) → forms_of text ≡ Ok forms → forms_of other ≡ Ok others
    → IsPermutation (map bare_form forms) (map bare_form others) → code_in (schema_in text) ≡ code_in (schema_in other)
