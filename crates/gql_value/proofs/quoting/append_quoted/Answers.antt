use Rattle.gql_value.proofs.Escapes.{IsUtf8-quoted}
use Rattle.gql_value.proofs.quoting.append_quoted.Goals as goal

pub returns-clause-utf8 : goal.returns-clause-utf8
returns-clause-utf8 c = IsUtf8-quoted c.args.text.now c.as_bytes.ensures.utf8
