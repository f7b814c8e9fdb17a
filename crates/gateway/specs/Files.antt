-- Which files a shelf holds, where it tells what it holds, and whether the schema there is one.
use Rattle.std.specs.Prelude.{◌≡◌, ℕ, List, Option, Some, None, IsSome, Result, Ok, Err, ⊤, codes, ◌⊎◌}
use Rattle.fault_causes.specs.Causes.{Rose}
use Rattle.schema_model.specs.declared.schema.Schema.{Schema}
use Rattle.gql_schema.specs.declared.error.Refusal.{Refusal}
use Rattle.gql_schema.specs.Texts.{schema_in}
use Rattle.execution_model.specs.Defaults.{AreDefaults}
use Rattle.judged_dispatch.specs.declared.service.Service.{Service}
use Rattle.gateway.specs.Words.{Names}
use Rattle.gateway.specs.Stopped.{missing_line, refused_schema_line}

-- it holds this name
abbrev pub IsHeld : Option (List ℕ → Option (List ℕ)) → List ℕ → Type 0
IsHeld None name = ⊤
IsHeld (Some file) name = IsSome (file name)

-- it holds no such name
abbrev pub IsMissing : Option (List ℕ → Option (List ℕ)) → List ℕ → Type 0
IsMissing None name = ⊤
IsMissing (Some file) name = file name ≡ None

-- it holds these bytes under the name
abbrev pub Holds : Option (List ℕ → Option (List ℕ)) → List ℕ → List ℕ → Type 0
Holds None name bytes = ⊤
Holds (Some file) name bytes = file name ≡ Some bytes

-- the bytes under the name give this schema, or this refusal
pub record GivesSchema (files : Option (List ℕ → Option (List ℕ))) (name : List ℕ) (read : Result Schema Refusal) : Type 0 where
  pub bytes : List ℕ
  pub held : Holds files name bytes
  pub given : schema_in bytes ≡ read

-- the bytes under the name give a schema
pub record IsSchema (files : Option (List ℕ → Option (List ℕ))) (name : List ℕ) : Type 0 where
  pub schema : Schema
  pub given : GivesSchema files name (Ok schema)

-- the bytes under the name give the schema of this service, whose defaults have these values
pub record GivesService (files : Option (List ℕ → Option (List ℕ))) (name : List ℕ) (service : Service) : Type 0 where
  pub given : GivesSchema files name (Ok service.schema)
  pub defaults : AreDefaults service.schema service.defaults

-- there are names, and it holds both, the first of which gives this service
abbrev pub AreHeldAs : Option (List ℕ → Option (List ℕ)) → Option Names → Service → Type 0
AreHeldAs files None service = ⊥
AreHeldAs files (Some names) service = GivesService files names.schema service × IsHeld files names.rules

-- The files give a service, and this holds of it.
pub record Serves (files : Option (List ℕ → Option (List ℕ))) (names : Option Names) (OfService : Service → Type 0) : Type 0 where
  pub service : Service
  pub held : AreHeldAs files names service
  pub ran : OfService service

-- there are names, and it holds both, the first of which gives a schema
abbrev pub AreHeld : Option (List ℕ → Option (List ℕ)) → Option Names → Type 0
AreHeld files None = ⊥
AreHeld files (Some names) = IsSchema files names.schema × IsHeld files names.rules

-- the first file that it holds not: the schema, or else the rules
abbrev pub IsFirstMissing : Option (List ℕ → Option (List ℕ)) → Option Names → List ℕ → Type 0
IsFirstMissing files None file = ⊥
IsFirstMissing files (Some names) file =
    ((file ≡ codes "schema") × IsMissing files names.schema) ⊎ ((file ≡ codes "rules") × (IsSchema files names.schema × IsMissing files names.rules))

-- A file is missing, so the count of missing names rose, and this holds of its stopped line.
pub record MissesFile (files : Option (List ℕ → Option (List ℕ))) (missing_old missing_new : ℕ) (names : Option Names) (OfLine : List ℕ → Type 0) : Type 0 where
  pub file : List ℕ
  pub first : IsFirstMissing files names file
  pub cause : Rose missing_old missing_new
  pub line : OfLine (missing_line file)

-- there are names, and the schema's bytes are refused
abbrev pub RefusesFor : Option (List ℕ → Option (List ℕ)) → Option Names → Refusal → Type 0
RefusesFor files None refusal = ⊥
RefusesFor files (Some names) refusal = GivesSchema files names.schema (Err refusal)

-- The schema is refused, and this holds of its stopped line.
pub record RefusesSchema (files : Option (List ℕ → Option (List ℕ))) (names : Option Names) (OfLine : List ℕ → Type 0) : Type 0 where
  pub refusal : Refusal
  pub first : RefusesFor files names refusal
  pub line : OfLine (refused_schema_line refusal)

-- A file is missing, or the schema is refused, and this holds of the stopped line.
abbrev pub StopsAtFile : Option (List ℕ → Option (List ℕ)) → ℕ → ℕ → Option Names → (List ℕ → Type 0) → Type 0
StopsAtFile files missing_old missing_new names OfLine = MissesFile files missing_old missing_new names OfLine ⊎ RefusesSchema files names OfLine
