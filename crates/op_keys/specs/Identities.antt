-- When two requests are the same one, and the numbers of their identities (after urql, whose operation keys are made of the
-- document's text and the variables).
use Rattle.std.specs.Prelude.{ℕ, Bool, ◌&&◌, List, [], ◌∷◌, ◌++◌, Option, cond, bytes_eq}
use Rattle.std.specs.List.{list_any, position_from}
use Rattle.std.specs.Option.{option_map_or}
use Rattle.gql_value.specs.declared.value.Value.{Value}
use Rattle.gql_value.specs.declared.value.Value.TheVariants as value
use Rattle.gql_value.specs.Sorted.{sorted_text_of}
use Rattle.gql_model.specs.declared.executable.Operation.{Operation}
use Rattle.gql_model.specs.declared.document.Document.{Document}
use Rattle.gql_printing.specs.Documents.{canonical_text}
use Rattle.op_keys.specs.declared.identity.Identity.{Identity}

-- the name of an operation, or an empty text
abbrev pub name_or_empty : Operation → List ℕ
name_or_empty operation = option_map_or (λ name. name.text) operation.name []

-- what makes a request: the canonical text of the client's document, the name of the chosen operation, and the text of the coerced
-- variables in the order of their names
abbrev pub identity_of : Document → Operation → List (List ℕ × Value) → Identity
identity_of document operation variables = record {
  document = canonical_text document;
  operation = name_or_empty operation;
  variables = sorted_text_of (value.Obj variables);
}

-- identities in the order of their numbers, which count from 0
abbrev pub Identities : Type 0
Identities = List Identity

-- whether two identities are equal
abbrev pub is_same : Identity → Identity → Bool
is_same a b = bytes_eq a.document b.document && (bytes_eq a.operation b.operation && bytes_eq a.variables b.variables)

-- whether one of the identities that are held equals this one
abbrev pub holds : Identities → Identity → Bool
holds held identity = list_any (is_same identity) held

-- the number of an identity, where it has one
abbrev pub number_of : Identities → Identity → Option ℕ
number_of held identity = position_from (is_same identity) 0 held

-- the identities with one more: a new one takes the next number
abbrev pub interned : Identities → Identity → Identities
interned held identity = cond (holds held identity) held (held ++ identity ∷ [])

-- how many identities can have a number: each number and their count are numbers of 32 bits
unfoldable pub most : ℕ
most = 4294967295
