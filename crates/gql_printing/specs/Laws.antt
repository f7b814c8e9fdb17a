-- What the canonical text of a document is read as.
use Rattle.std.specs.Prelude.{◌≡◌, ℕ, List, Ok}
use Rattle.gql_model.specs.declared.document.Document.{Document}
use Rattle.gql_model.specs.Documents.{IsDocument}
use Rattle.gql_documents.specs.Documents.{document_of}
use Rattle.gql_printing.specs.Documents.{canonical_text}
use Rattle.gql_printing.specs.Places.{without_places}

-- the tokens of the canonical text derive the document again, places aside, where the tokens of some text derive it
abbrev pub CanonicalTextIsItsDocument : Type 0
CanonicalTextIsItsDocument = (text : List ℕ) (document : Document) → IsDocument text document
    → (again : Document) × IsDocument (canonical_text document) again × (without_places again ≡ without_places document)

-- the canonical text is read as the document again, places aside
abbrev pub CanonicalTextIsReadAgain : Type 0
CanonicalTextIsReadAgain = (text : List ℕ) (document : Document) → IsDocument text document
    → (again : Document) × (document_of (canonical_text document) ≡ Ok again) × (without_places again ≡ without_places document)
