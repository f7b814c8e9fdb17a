use Rattle.gql_tokens.proofs.MakingLaws.{tokens_make_up}
use Rattle.gql_tokens.proofs.laws.tokens_make_up_texts.Goals as goal

pub returns : goal.returns
returns c = tokens_make_up
