use Rattle.std.proofs.Common.{sym}
use Rattle.serde_json.specs.View.{view}
use Rattle.gql_value.specs.Outcome.{first_not_whole}
use Rattle.gql_value.proofs.Responses.{told_not_whole}
use Rattle.gql_value.proofs.outcome.outcome_of_json.Goals as goal

pub returns-in-NotWhole : goal.returns-in-NotWhole
returns-in-NotWhole c =
    let first = first_not_whole (view c.args.json.now) in
    let told = c.in-NotWhole.ensures first c.in-Err.ensures.refused in
    rw (sym c.is_no_response.ensures, c.if-is_no_response.false) (told_not_whole (view c.args.json.now) first c.in-NotWhole.path told)
