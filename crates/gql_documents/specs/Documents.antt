-- The parser of documents (GraphQL October 2021, 2.2).
use Rattle.std.specs.Prelude.{◌≡◌, ℕ, Bool, List, [], ◌∷◌, ◌++◌, Result, Ok, Err, nat_eq, if◌then◌else◌, codes}
use Rattle.gql_tokens.specs.Tokens.{Token, tokens_of}
use Rattle.gql_tokens.specs.Cursors.{first_kind}
use Rattle.gql_tokens.specs.declared.token.Place.{Place}
use Rattle.gql_tokens.specs.declared.token.Kind.TheVariants as kind
use Rattle.gql_tokens.specs.declared.error.SyntaxError.{SyntaxError}
use Rattle.gql_tokens.specs.declared.error.SyntaxError.TheVariants.{Memory, Syntax}
use Rattle.gql_model.specs.declared.document.Document.{Document}
use Rattle.gql_model.specs.declared.document.Definition.{Definition}
use Rattle.gql_model.specs.Sorts.{Sort, Mark, Word, rank, mark, word}
use Rattle.gql_model.specs.Rules.{place_of}
use Rattle.gql_model.specs.Documents.{of_operation, of_fragment, of_type_system, IsDocument, IsFault}
use Rattle.gql_documents.specs.Parsing.{Outcome, Done, Fail, Parser, via, either, many}
use Rattle.gql_documents.specs.Executables.{operation, fragment}
use Rattle.gql_documents.specs.TypeSystems.{type_system}

-- what an operation begins with
abbrev pub operation_start : List Sort
operation_start = Mark kind.BraceOpen ∷ Word (codes "query") ∷ Word (codes "mutation") ∷ Word (codes "subscription") ∷ []

-- the words with which schema, scalar type, object type and interface definitions begin
abbrev pub first_forms : List Sort
first_forms = Word (codes "schema") ∷ Word (codes "scalar") ∷ Word (codes "type") ∷ Word (codes "interface") ∷ []

-- the words with which union, enum, input object type and directive definitions begin
abbrev pub last_forms : List Sort
last_forms = Word (codes "union") ∷ Word (codes "enum") ∷ Word (codes "input") ∷ Word (codes "directive") ∷ []

-- what a type system definition begins with
abbrev pub type_system_start : List Sort
type_system_start = mark kind.String ++ first_forms ++ last_forms

-- what a definition begins with
abbrev pub definition_start : List Sort
definition_start = word (codes "fragment") ++ operation_start ++ type_system_start

-- Definition: a fragment where the name `fragment` stands, an operation where one begins, else a type system definition
unfoldable pub definition : Parser Definition
definition =
    either (word (codes "fragment")) (via of_fragment fragment) (either operation_start (via of_operation operation) (via of_type_system type_system))

-- nothing but the end is left
abbrev pub ends : List Token → Bool
ends ts = nat_eq (rank (first_kind ts)) (rank kind.End)

-- Definition*: one more wherever a token follows with which a definition begins
unfoldable pub definitions : Parser (List Definition)
definitions = many definition_start definition

-- the document of these definitions, if there is one at least and nothing is left behind them, or the place of the fault
abbrev pub whole : List Definition → List Token → Result Document Place
whole [] rest = Err (place_of rest)
whole (d ∷ all) rest = if ends rest then Ok (record { definitions = d ∷ all }) else Err (place_of rest)

-- what the reading of definitions comes to: the document of all that were read, or the place of the token at fault
abbrev pub judged : Outcome (List Definition) → Result Document Place
judged (Done all rest) = whole all rest
judged (Fail rest) = Err (place_of rest)

-- the document that a text is, or the place where it is at fault
unfoldable pub document_of : List ℕ → Result Document Place
document_of text = judged (definitions (tokens_of text))

-- what `parse_document` answers, by the parser
abbrev pub Reading : Result Document Place → Result Document SyntaxError → Type 0
Reading read (Ok document) = read ≡ Ok document
Reading read (Err Memory) = Unit {0}
Reading read (Err (Syntax row column)) = read ≡ Err (record { row = row; column = column })

-- what `parse_document` answers, by the grammar
abbrev pub Answers : List ℕ → Result Document SyntaxError → Type 0
Answers text (Ok document) = IsDocument text document
Answers text (Err Memory) = Unit {0}
Answers text (Err (Syntax row column)) = IsFault (tokens_of text) (record { row = row; column = column })

-- a text is read as the document that its tokens derive, so none is refused, and none has two
abbrev pub DocumentsAreRead : Type 0
DocumentsAreRead = (text : List ℕ) (document : Document) → IsDocument text document → document_of text ≡ Ok document
