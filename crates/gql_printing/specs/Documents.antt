-- The canonical text of documents (GraphQL October 2021, 2.2; the spaces and the short form: own).
use Rattle.std.specs.Prelude.{ℕ, Bool, true, false, List, [], ◌∷◌, ◌++◌}
use Rattle.gql_tokens.specs.Tokens.{Token}
use Rattle.gql_spelling.specs.Spelling.{spaced}
use Rattle.gql_model.specs.declared.document.Document.{Document}
use Rattle.gql_model.specs.declared.document.Definition.{Definition}
use Rattle.gql_model.specs.declared.document.Definition.TheVariants as definition
use Rattle.gql_printing.specs.Executables.{operation_tokens, fragment_tokens}
use Rattle.gql_printing.specs.TypeSystems.{type_system_tokens}

-- a definition, in the short form where it may stand and there is one
abbrev pub definition_tokens : Bool → Definition → List Token
definition_tokens short (definition.Operation d) = operation_tokens short d
definition_tokens short (definition.Fragment d) = fragment_tokens d
definition_tokens short (definition.TypeSystem d) = type_system_tokens d

-- the short form of a query may follow: a type system definition might go on with its `{`
abbrev pub lets_short_form_follow : Definition → Bool
lets_short_form_follow (definition.TypeSystem d) = false
lets_short_form_follow _ = true

-- definitions one after another, the first in the short form where it may be
abbrev pub definitions_tokens : Bool → List Definition → List Token
definitions_tokens short [] = []
definitions_tokens short (d ∷ all) = definition_tokens short d ++ definitions_tokens (lets_short_form_follow d) all

-- the tokens of a document (2.2)
abbrev pub document_tokens : Document → List Token
document_tokens d = definitions_tokens true d.definitions

-- the canonical text of a document: its tokens with one space between two words
abbrev pub canonical_text : Document → List ℕ
canonical_text d = spaced (document_tokens d)
