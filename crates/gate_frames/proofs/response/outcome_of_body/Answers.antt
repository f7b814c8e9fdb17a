use Rattle.std.proofs.Common.{◌≡◌, ◌∙◌, ap}
use Rattle.std.proofs.lemmas.Result.{IfOk-weaker}
use Rattle.serde_json.specs.View.{view}
use Rattle.gql_value.specs.Outcome.{meaning_of, outcome_from, outcome_of_data, status_fault}
use Rattle.gql_value.proofs.ValueLaws.{outcome_read}
use Rattle.gate_frames.specs.Frames.{body_beside}
use Rattle.gate_frames.proofs.response.outcome_of_body.Goals as goal

pub returns-in-None : goal.returns-in-None
returns-in-None c =
    let body = view c.args.body.now in
    IfOk-weaker c.outcome_of_json.result
    (λ outcome. meaning_of outcome ≡ outcome_of_data body)
    (λ outcome. outcome ≡ outcome_from (body_beside (status_fault c.args.status) body))
    (λ outcome is. outcome_read outcome (outcome_of_data body) is ∙ ap (λ fault. outcome_from (body_beside fault body)) c.in-None.ensures)
    c.outcome_of_json.ensures
