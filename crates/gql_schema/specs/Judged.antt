-- Which code refuses definitions: the least that is broken, with its least line.
use Rattle.std.specs.Prelude.{◌≡◌, ℕ, List, Option, Some}
use Rattle.std.specs.Option.{option_map, option_or}
use Rattle.gql_model.specs.declared.type_system.TypeSystemForm.{TypeSystemForm}
use Rattle.schema_model.specs.declared.schema.Schema.{Schema}
use Rattle.schema_rules.specs.Lines.{earlier}
use Rattle.schema_rules.specs.Unknown.{unknown_line}
use Rattle.schema_rules.specs.Misplaced.{misplaced_line}
use Rattle.schema_rules.specs.Unsatisfied.{unsatisfied_line}
use Rattle.schema_rules.specs.Roots.{root_line}
use Rattle.schema_defaults.specs.Empty.{empty_line}
use Rattle.schema_defaults.specs.Defaults.{unfit_line}
use Rattle.schema_circles.specs.Needs.{needs_itself_line}
use Rattle.schema_circles.specs.Fillings.{fills_itself_line}
use Rattle.gql_schema.specs.declared.error.Refusal.{Refusal}
use Rattle.gql_schema.specs.declared.error.SchemaError.{SchemaError}
use Rattle.gql_schema.specs.declared.error.SchemaError.TheVariants as error
use Rattle.gql_schema.specs.Meaning.{schema_of}
use Rattle.gql_schema.specs.Repeated.{repeated_line}
use Rattle.gql_schema.specs.Reserved.{reserved_line}

-- the refusal with this code, where there is a line at which that is broken
abbrev pub coded : ℕ → Option ℕ → Option Refusal
coded code line = option_map (λ l. record { code = code; line = l }) line

-- S3 and S4, which are said of the definitions
abbrev pub definitions_refusal : List TypeSystemForm → Option Refusal
definitions_refusal forms = option_or (coded 3 (repeated_line forms)) (coded 4 (reserved_line forms))

-- a type or a default that needs itself
abbrev pub circle_line : Schema → Option ℕ
circle_line schema = earlier (needs_itself_line schema) (fills_itself_line schema)

-- S9: a type without parts, a default that may not stand, or a circle
abbrev pub invalid_line : Schema → Option ℕ
invalid_line schema = earlier (empty_line schema) (earlier (unfit_line schema) (circle_line schema))

-- S5 to S9, which are said of the schema
abbrev pub schema_refusal : Schema → Option Refusal
schema_refusal schema =
    option_or (coded 5 (unknown_line schema)) (option_or (coded 6 (misplaced_line schema))
    (option_or (coded 7 (unsatisfied_line schema)) (option_or (coded 8 (root_line schema)) (coded 9 (invalid_line schema)))))

-- the least code that definitions break, with its least line
abbrev pub refusal_of : List TypeSystemForm → Option Refusal
refusal_of forms = option_or (definitions_refusal forms) (schema_refusal (schema_of forms))

-- an error that tells the first refusal, or that memory ran out
abbrev pub IsRefusal : Option Refusal → SchemaError → Type 0
IsRefusal first error.Memory = Unit {0}
IsRefusal first (error.Refused code line) = first ≡ Some (record { code = code; line = line })
