use Rattle.std.proofs.Common.{◌∙◌, ap, sym, Some}
use Rattle.gql_value.specs.Outcome.{outcome_from, outcome_meaning}
use Rattle.gql_value.proofs.ValueLaws.{outcome_read}
use Rattle.gate_frames.proofs.response.outcome_of_member.Goals as goal

pub returns-in_ok-outcome_of-in-Some : goal.returns-in_ok-outcome_of-in-Some
returns-in_ok-outcome_of-in-Some c =
    let outcome = c.in_ok-outcome_of-in-Some.field-0 in
    let read = outcome_read outcome _ c.in_ok-outcome_of-in-Some.ensures in
    rw (sym c.in-Some.ensures) (ap Some (read ∙ ap (λ bytes. outcome_from (outcome_meaning c.args.status bytes)) c.as_bytes.ensures.value))
