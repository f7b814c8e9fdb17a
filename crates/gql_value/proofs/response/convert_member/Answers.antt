use Rattle.std.proofs.Common.{sym}
use Rattle.serde_json.specs.View.{view}
use Rattle.gql_value.specs.Json.{not_whole}
use Rattle.gql_value.proofs.response.convert_member.Goals as goal

pub returns-in_ok-from_str-in-Err-clause-refused : goal.returns-in_ok-from_str-in-Err-clause-refused
returns-in_ok-from_str-in-Err-clause-refused c =
    rw (sym c.in-Some.ensures, sym c.in_ok-from_str-in-Err.ensures) (c.behind.ensures (not_whole (view c.in-Some.member.now)) c.in-Err.ensures.refused)
