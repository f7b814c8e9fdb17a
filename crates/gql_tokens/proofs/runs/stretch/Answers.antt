use Rattle.gql_tokens.proofs.PlainLaws.{front_begins}
use Rattle.gql_tokens.proofs.runs.stretch.Goals as goal

pub returns-else-is_empty-clause-value : goal.returns-else-is_empty-clause-value
returns-else-is_empty-clause-value c = front_begins c.args.context c.args.text.now c.plain_text-plain.result.now c.plain_text-plain.ensures
