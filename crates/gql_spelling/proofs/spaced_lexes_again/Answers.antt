use Rattle.gql_spelling.proofs.Lexing.{lexes_again}
use Rattle.gql_spelling.proofs.spaced_lexes_again.Goals as goal

pub returns : goal.returns
returns c = lexes_again
