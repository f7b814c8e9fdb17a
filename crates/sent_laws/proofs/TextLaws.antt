-- The canonical text of a document that is sent is its text, places aside, and is read as it.
use Rattle.std.proofs.Common.{◌≡◌, ℕ, List, [], ◌∷◌, subst}
use Rattle.gql_spelling.specs.Spelling.{ArePrintable}
use Rattle.gql_spelling.proofs.Printable.{tokens_print}
use Rattle.gql_model.specs.declared.document.Document.{Document}
use Rattle.gql_model.specs.Documents.{Derives, IsDocument}
use Rattle.gql_documents.proofs.DocumentLaws.{document_found}
use Rattle.gql_printing.specs.Documents.{canonical_text}
use Rattle.gql_printing.proofs.Again.{printable_left}
use Rattle.gql_printing.proofs.DocumentLaws.{written_again}
use Rattle.schema_model.specs.declared.schema.Schema.{Schema}
use Rattle.op_keys.specs.Sent.{with_typename}
use Rattle.sent_laws.specs.Laws.{SentDocumentsAreDerived, SentTextsAreDocuments, SentTextsAreReadAgain}
use Rattle.sent_laws.proofs.Grows.{Stands}
use Rattle.sent_laws.proofs.DefinitionLaws.{sent_stands}

sent_at : (schema : Schema) (text : List ℕ) (document : Document) → IsDocument text document → Stands Derives (with_typename schema document)
sent_at schema text document d = sent_stands schema d.0 document d.4 (printable_left d.0 (d.1 ∷ []) (subst ArePrintable d.2 (tokens_print text)))

pub sent_derived : SentDocumentsAreDerived
sent_derived schema text document d = let s = sent_at schema text document d in (s.tokens, s.derives)

pub sent_again : SentTextsAreDocuments
sent_again schema text document d = let s = sent_at schema text document d in written_again s.tokens (with_typename schema document) s.derives s.printable

pub sent_read : SentTextsAreReadAgain
sent_read schema text document d =
    let again = sent_again schema text document d in
    (again.0, document_found (canonical_text (with_typename schema document)) again.0 again.1, again.2)
