-- The schema that a text gives, or the refusal of the text: the least code that is broken, with its least line.
use Rattle.std.specs.Prelude.{◌≡◌, ℕ, List, Option, None, Some, Result, Ok, Err}
use Rattle.gql_model.specs.declared.type_system.TypeSystemForm.{TypeSystemForm}
use Rattle.schema_model.specs.declared.schema.Schema.{Schema}
use Rattle.schema_text.specs.declared.error.Flaw.{Flaw}
use Rattle.schema_text.specs.declared.error.Flaw.TheVariants as flaw
use Rattle.schema_text.specs.Texts.{forms_of}
use Rattle.gql_schema.specs.declared.error.Refusal.{Refusal}
use Rattle.gql_schema.specs.declared.error.SchemaError.{SchemaError}
use Rattle.gql_schema.specs.declared.error.SchemaError.TheVariants as error
use Rattle.gql_schema.specs.Ignored.{considered}
use Rattle.gql_schema.specs.Meaning.{schema_of}
use Rattle.gql_schema.specs.Judged.{refusal_of}

-- S1, or S2 where the text extends something
abbrev pub text_refusal : Flaw → Refusal
text_refusal (flaw.NotASchema line) = record { code = 1; line = line }
text_refusal (flaw.Extends line) = record { code = 2; line = line }

-- the schema of definitions, unless they are refused
abbrev pub unless_refused : List TypeSystemForm → Option Refusal → Result Schema Refusal
unless_refused forms None = Ok (schema_of forms)
unless_refused forms (Some refusal) = Err refusal

-- definitions of what the language has already are passed over
abbrev pub schema_of_forms : Result (List TypeSystemForm) Flaw → Result Schema Refusal
schema_of_forms (Ok forms) = unless_refused (considered forms) (refusal_of (considered forms))
schema_of_forms (Err flaw) = Err (text_refusal flaw)

-- the schema of a text, or its refusal: S1 or S2 where no definitions can be read, and else the least of S3 to S9
abbrev pub schema_in : List ℕ → Result Schema Refusal
schema_in text = schema_of_forms (forms_of text)

-- an error that tells the refusal, or that memory ran out
abbrev pub IsSchemaError : Result Schema Refusal → SchemaError → Type 0
IsSchemaError read error.Memory = Unit {0}
IsSchemaError read (error.Refused code line) = read ≡ Err (record { code = code; line = line })
