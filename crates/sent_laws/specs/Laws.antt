-- The document that is sent, `__typename` put at the front of selection sets, is a document again.
use Rattle.std.specs.Prelude.{◌≡◌, ℕ, List, Ok}
use Rattle.gql_tokens.specs.Tokens.{Token}
use Rattle.gql_model.specs.declared.document.Document.{Document}
use Rattle.gql_model.specs.Documents.{Derives, IsDocument}
use Rattle.gql_documents.specs.Documents.{document_of}
use Rattle.gql_printing.specs.Documents.{canonical_text}
use Rattle.gql_printing.specs.Places.{without_places}
use Rattle.schema_model.specs.declared.schema.Schema.{Schema}
use Rattle.op_keys.specs.Sent.{with_typename}

-- tokens derive the document that is sent, with the new field at its set's own place, where the tokens of some text derive the client's
abbrev pub SentDocumentsAreDerived : Type 0
SentDocumentsAreDerived = (schema : Schema) (text : List ℕ) (document : Document) → IsDocument text document
    → (tokens : List Token) × Derives tokens (with_typename schema document)

-- the canonical text of the document that is sent is the text of this document, places aside
abbrev pub SentTextsAreDocuments : Type 0
SentTextsAreDocuments = (schema : Schema) (text : List ℕ) (document : Document) → IsDocument text document
    → (again : Document) × IsDocument (canonical_text (with_typename schema document)) again
    × (without_places again ≡ without_places (with_typename schema document))

-- that text is read as the document that is sent, places aside
abbrev pub SentTextsAreReadAgain : Type 0
SentTextsAreReadAgain = (schema : Schema) (text : List ℕ) (document : Document) → IsDocument text document
    → (again : Document) × (document_of (canonical_text (with_typename schema document)) ≡ Ok again)
    × (without_places again ≡ without_places (with_typename schema document))
