use Rattle.gql_printing.proofs.DocumentLaws.{canonical_again}
use Rattle.gql_printing.proofs.laws.canonical_text_is_its_document.Goals as goal

pub returns : goal.returns
returns c = canonical_again
