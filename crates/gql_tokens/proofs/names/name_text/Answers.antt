use Rattle.gql_tokens.proofs.NameLaws.{name_is_text}
use Rattle.gql_tokens.proofs.names.name_text.Goals as goal

pub unreachable-requires : goal.unreachable-requires
unreachable-requires c = c.in-Err.ensures.cases.0 (name_is_text c.args.text.now c.requires)
