use Rattle.gql_tokens.proofs.NumberLaws.{integer_is_text}
use Rattle.gql_tokens.proofs.numbers.integer_text.Goals as goal

pub unreachable-requires : goal.unreachable-requires
unreachable-requires c = c.in-Err.ensures.cases.0 (integer_is_text c.args.text.now c.requires)
