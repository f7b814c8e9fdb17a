use Rattle.gql_spelling.proofs.Quotes.{quoted_value}
use Rattle.gql_spelling.proofs.quoted_means_its_text.Goals as goal

pub returns : goal.returns
returns c = quoted_value
