use Rattle.serde_json.specs.View.{view}
use Rattle.gql_value.specs.Json.{not_whole}
use Rattle.gql_value.proofs.json.from_json.Goals as goal

pub returns-in-Err-clause-refused : goal.returns-in-Err-clause-refused
returns-in-Err-clause-refused c = c.into_error.ensures (not_whole (view c.args.json.now)) c.in-Err.ensures.refused
