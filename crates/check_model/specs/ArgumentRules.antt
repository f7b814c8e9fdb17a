-- The rules on arguments of fields and directives (GraphQL October 2021, 5.4).
use Rattle.std.specs.Prelude.{ℕ, Bool, true, false, ◌&&◌, not, List, map, is_none, bytes_eq}
use Rattle.std.specs.List.{list_any}
use Rattle.gql_model.specs.declared.literal.Literal.{Literal, out-Literal}
use Rattle.gql_model.specs.declared.literal.LiteralValue.{LiteralValue, out-LiteralValue}
use Rattle.gql_model.specs.declared.literal.LiteralValue.TheOpen.{LiteralValue-F}
use Rattle.gql_model.specs.declared.literal.ObjectField.{ObjectField}
use Rattle.gql_model.specs.declared.selection.Argument.{Argument}
use Rattle.gql_model.specs.declared.document.Document.{Document}
use Rattle.schema_model.specs.declared.schema.Schema.{Schema}
use Rattle.schema_model.specs.declared.schema.InputValue.{InputValue}
use Rattle.schema_model.specs.Tables.{entry}
use Rattle.schema_rules.specs.Unsatisfied.{is_required}
use Rattle.check_model.specs.Repeated.{stands_twice}
use Rattle.check_model.specs.Sites.{Site, some_site}

-- an argument that is given has the name of none that is defined
abbrev pub is_undefined_argument : List (List ℕ × InputValue) → Argument → Bool
is_undefined_argument defined argument = is_none (entry defined argument.name.text)

-- a field or a directive is given an argument that isn't defined for it
abbrev pub has_undefined_argument : Site → Bool
has_undefined_argument (Site.Given defined arguments) = list_any (is_undefined_argument defined) arguments
has_undefined_argument _ = false

-- V16, 5.4.1 Argument Names: an argument isn't defined
abbrev pub breaks_argument_names : Schema → Document → Bool
breaks_argument_names schema document = some_site has_undefined_argument schema document

-- the names of the arguments that are given, as they stand
abbrev pub argument_names : List Argument → List (List ℕ)
argument_names arguments = map (λ a. a.name.text) arguments

-- a field or a directive is given two arguments of one name
abbrev pub has_doubled_argument : Site → Bool
has_doubled_argument (Site.Given defined arguments) = stands_twice (argument_names arguments)
has_doubled_argument _ = false

-- V17, 5.4.2 Argument Uniqueness: an argument stands twice
abbrev pub breaks_argument_uniqueness : Schema → Document → Bool
breaks_argument_uniqueness schema document = some_site has_doubled_argument schema document

-- a literal's value is null
abbrev pub is_null_value : LiteralValue-F LiteralValue Literal ObjectField → Bool
is_null_value LiteralValue-F.Null = true
is_null_value _ = false

-- the literal null
abbrev pub is_null : Literal → Bool
is_null literal = is_null_value (out-LiteralValue (out-Literal literal).value)

-- an argument of this name is given, and not as the literal null
abbrev pub gives : List ℕ → Argument → Bool
gives name argument = bytes_eq name argument.name.text && not (is_null argument.value)

-- an argument that is Non-Null and has no default is missing or the literal null
abbrev pub is_missing : List Argument → List ℕ × InputValue → Bool
is_missing arguments defined = is_required defined.1 && not (list_any (gives defined.0) arguments)

-- a field or a directive lacks an argument that it requires, or is given null for it
abbrev pub has_missing_argument : Site → Bool
has_missing_argument (Site.Given defined arguments) = list_any (is_missing arguments) defined
has_missing_argument _ = false

-- V18, 5.4.2.1 Required Arguments
abbrev pub breaks_required_arguments : Schema → Document → Bool
breaks_required_arguments schema document = some_site has_missing_argument schema document
