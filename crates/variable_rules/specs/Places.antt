-- What the code's places stand for.
use Rattle.std.specs.Prelude.{ℕ, List, [], Option}
use Rattle.std.specs.Option.{option_map, option_map_or}
use Rattle.gql_model.specs.declared.type_ref.TypeRef.{TypeRef}
use Rattle.schema_model.specs.declared.schema.Schema.{Schema}
use Rattle.schema_model.specs.declared.schema.InputValue.{InputValue}
use Rattle.schema_model.specs.Schemas.{input_fields_in}
use Rattle.schema_model.specs.Tables.{entry}
use Rattle.schema_rules.specs.TypeRefs.{named_type}
use Rattle.check_model.specs.Usages as usages
use Rattle.check_model.specs.Usages.{At}
use Rattle.variable_rules.specs.declared.wanted.Wanted.{Wanted}

-- what is wanted at a place: the type that the code points to, and whether there is a default in its place
abbrev pub place_of : Wanted → usages.Wanted
place_of w = record { type = w.wanted.now; has_default = w.has_default }

-- the same of a place where perhaps nothing is wanted
abbrev pub at_of : Option Wanted → At
at_of at = option_map place_of at

-- the fields, or none
abbrev pub fields_of : Option (List (List ℕ × InputValue)) → List (List ℕ × InputValue)
fields_of fields = option_map_or (λ f. f) fields []

-- the fields of the input object type that is named
abbrev pub named_fields : Schema → TypeRef → List (List ℕ × InputValue)
named_fields schema type = option_map_or (λ t. fields_of (input_fields_in t.form)) (entry schema.types (named_type type)) []
