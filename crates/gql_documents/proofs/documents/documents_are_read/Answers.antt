use Rattle.gql_documents.proofs.DocumentLaws.{document_found}
use Rattle.gql_documents.proofs.documents.documents_are_read.Goals as goal

pub returns : goal.returns
returns c = document_found
