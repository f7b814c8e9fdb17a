use Rattle.gql_spelling.proofs.Printable.{tokens_print}
use Rattle.gql_spelling.proofs.tokens_are_printable.Goals as goal

pub returns : goal.returns
returns c = tokens_print
