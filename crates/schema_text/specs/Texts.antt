-- Which type system definitions a schema's text holds.
use Rattle.std.specs.Prelude.{◌≡◌, ℕ, List, [], ◌∷◌, Option, None, Some, cond, Result, Ok, Err}
use Rattle.std.specs.List.{fold, flat_map}
use Rattle.std.specs.Option.{option_or}
use Rattle.gql_tokens.specs.declared.token.Place.{Place}
use Rattle.gql_tokens.specs.Tokens.{tokens_of}
use Rattle.gql_model.specs.declared.document.Document.{Document}
use Rattle.gql_model.specs.declared.document.Definition.{Definition}
use Rattle.gql_model.specs.declared.document.Definition.TheVariants as definition
use Rattle.gql_model.specs.declared.type_system.TypeSystemForm.{TypeSystemForm}
use Rattle.gql_documents.specs.Documents.{document_of}
use Rattle.schema_text.specs.declared.error.Flaw.{Flaw}
use Rattle.schema_text.specs.declared.error.Flaw.TheVariants as flaw
use Rattle.schema_text.specs.declared.error.TextError.{TextError}
use Rattle.schema_text.specs.declared.error.TextError.TheVariants as error
use Rattle.schema_text.specs.Depth.{nests_too_deep, deep_line}
use Rattle.schema_text.specs.Extensions.{extends_at}

-- the line of an operation or a fragment
abbrev pub executable_line : Definition → Option ℕ
executable_line (definition.Operation d) = Some d.place.row
executable_line (definition.Fragment d) = Some d.place.row
executable_line (definition.TypeSystem d) = None

-- the line of the first of them
abbrev pub first_executable : List Definition → Option ℕ
first_executable ds = fold (λ first d. option_or first (executable_line d)) None ds

-- the type system definition that a definition is, its description aside; an operation and a fragment give none
abbrev pub form_in : Definition → List TypeSystemForm
form_in (definition.TypeSystem d) = d.form ∷ []
form_in _ = []

-- the type system definitions, descriptions aside
abbrev pub forms_in : List Definition → List TypeSystemForm
forms_in ds = flat_map form_in ds

-- the type system definitions among these, or no schema if a line is given, on which an executable definition stands
abbrev pub all_forms : List Definition → Option ℕ → Result (List TypeSystemForm) Flaw
all_forms ds None = Ok (forms_in ds)
all_forms ds (Some line) = Err (flaw.NotASchema line)

-- where a text that is no document is at fault, it extends something, or isn't a schema
abbrev pub flaw_at : List ℕ → Place → Flaw
flaw_at text place = cond (extends_at text place) (flaw.Extends place.row) (flaw.NotASchema place.row)

-- what the document of a text holds, or the flaw where the text is none or an executable definition stands in it
abbrev pub forms_of_document : List ℕ → Result Document Place → Result (List TypeSystemForm) Flaw
forms_of_document text (Ok document) = all_forms document.definitions (first_executable document.definitions)
forms_of_document text (Err place) = Err (flaw_at text place)

-- what a text holds, or its flaw: it nests too deep, or is no document, or has an executable definition
abbrev pub forms_of : List ℕ → Result (List TypeSystemForm) Flaw
forms_of text = cond (nests_too_deep text) (Err (flaw.NotASchema (deep_line 0 (tokens_of text)))) (forms_of_document text (document_of text))

-- an error that tells the flaw, or that memory ran out
abbrev pub IsTextError : Result (List TypeSystemForm) Flaw → TextError → Type 0
IsTextError read error.Memory = Unit {0}
IsTextError read (error.Flawed flaw) = read ≡ Err flaw
