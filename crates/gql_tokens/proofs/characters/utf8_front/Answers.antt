use Rattle.std.proofs.Common.{arith, ◌∙◌}
use Rattle.gql_tokens.proofs.CharacterLaws.{utf8_front_some, utf8_front_none}
use Rattle.gql_tokens.proofs.characters.utf8_front.Goals as goal

pub returns-in-Ok-clause-value : goal.returns-in-Ok-clause-value
returns-in-Ok-clause-value c = utf8_front_some c.args.len c.args.text.now c.in-Ok.front.now (omega arith) (c.in-Ok.ensures.cases.0 ∙ c.split_at.ensures.front) (rw c.in-Ok.ensures.cases.0 c.in-Ok.ensures.cases.1)

pub returns-in-Err-clause-value : goal.returns-in-Err-clause-value
returns-in-Err-clause-value c = utf8_front_none c.args.len c.args.text.now _ (omega arith) c.split_at.ensures.front c.in-Err.ensures.cases.0
