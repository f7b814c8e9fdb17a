-- The rules on values (GraphQL October 2021, 5.6).
use Rattle.std.specs.Prelude.{ℕ, Bool, false, not, List}
use Rattle.std.specs.List.{list_any}
use Rattle.std.specs.Option.{option_map_or}
use Rattle.gql_model.specs.declared.selection.Argument.{Argument}
use Rattle.gql_model.specs.declared.document.Document.{Document}
use Rattle.schema_model.specs.declared.schema.Schema.{Schema}
use Rattle.schema_model.specs.declared.schema.InputValue.{InputValue}
use Rattle.schema_model.specs.Tables.{entry}
use Rattle.schema_defaults.specs.Fits.{literal_fits}
use Rattle.schema_defaults.specs.Doubled.{is_doubled}
use Rattle.check_model.specs.Sites.{Site, some_site}

-- an argument's value doesn't fit its type
abbrev pub is_unfit : Schema → List (List ℕ × InputValue) → Argument → Bool
is_unfit schema defined argument =
    option_map_or (λ i. not (literal_fits schema argument.value i.input_type.type_ref)) (entry defined argument.name.text) false

-- the value of an argument, or the default of a variable, doesn't fit its type
abbrev pub has_unfit_value : Schema → Site → Bool
has_unfit_value schema (Site.Given defined arguments) = list_any (is_unfit schema defined) arguments
has_unfit_value schema (Site.Default type literal) = not (literal_fits schema literal type)
has_unfit_value schema _ = false

-- V23, 5.6.1, 5.6.2 and 5.6.4 Values Of Correct Type, Input Object Field Names and Required Fields
abbrev pub breaks_values_of_correct_type : Schema → Document → Bool
breaks_values_of_correct_type schema document = some_site (has_unfit_value schema) schema document

-- a field stands twice in an object literal
abbrev pub has_doubled_field : Site → Bool
has_doubled_field (Site.Given defined arguments) = list_any (λ a. is_doubled a.value) arguments
has_doubled_field (Site.Default type literal) = is_doubled literal
has_doubled_field _ = false

-- V24, 5.6.3 Input Object Field Uniqueness
abbrev pub breaks_input_field_uniqueness : Schema → Document → Bool
breaks_input_field_uniqueness schema document = some_site has_doubled_field schema document
