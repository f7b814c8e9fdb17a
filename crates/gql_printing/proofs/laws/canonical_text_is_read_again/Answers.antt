use Rattle.gql_documents.proofs.DocumentLaws.{document_found}
use Rattle.gql_printing.specs.Documents.{canonical_text}
use Rattle.gql_printing.proofs.DocumentLaws.{canonical_again}
use Rattle.gql_printing.proofs.laws.canonical_text_is_read_again.Goals as goal

pub returns : goal.returns
returns c = λ text document d.
    let again = canonical_again text document d in
    (again.0, document_found (canonical_text document) again.0 again.1, again.2)
