-- What is told of a judged dispatch.
use Rattle.std.proofs.Common.{◌≡◌, ℕ, List, ◌++◌, Option, Result, Ok, Err, ap, sym, subst, ◌∙◌}
use Rattle.std.specs.Prelude.{IfOk, IfErr, OnOk}
use Rattle.gql_value.specs.Values.{Pairs}
use Rattle.schema_model.specs.Tables.{tabled}
use Rattle.machine_model.specs.declared.output.Refusal.{Refusal}
use Rattle.frame_reading.specs.Frames.{Dispatch}
use Rattle.frame_reading.specs.declared.error.FrameError.{FrameError}
use Rattle.frame_reading.specs.declared.error.FrameError.TheVariants as error
use Rattle.frame_reading.specs.Errors.{IsFrameError}
use Rattle.judged_dispatch.specs.declared.service.Service.{Service}
use Rattle.judged_dispatch.specs.declared.judged.Judged.{Judged}
use Rattle.judged_dispatch.specs.declared.kinds.Kinds.TheVariants.{Queries}
use Rattle.judged_dispatch.specs.Judged.{Accepted, judged}
use Rattle.judged_dispatch.specs.Told.{accepted_by}
use Rattle.gate_machine.specs.Outputs.{refused_line}
use Rattle.gate_machine.specs.Machine.{GatewayState, operation_dispatched, dispatch_judged}

-- a judgement by an equal service, an equal name and equal values
module _ (service own : Service) (text : List ℕ) (name other : Option (List ℕ)) (values more : Pairs) (r : Result Judged FrameError) (services : service ≡ own) (names : name ≡ other) (pairs : values ≡ more) where
  same_judgement : judged Queries service text name values ≡ judged Queries own text other more
  same_judgement = ap (λ s. judged Queries s text name values) services ∙ ap (λ n. judged Queries own text n values) names ∙ ap (judged Queries own text other) pairs

  pub accepted_by_same : IfOk r (λ j. judged Queries service text name values ≡ Ok (accepted_by j)) → IfOk r (λ j. judged Queries own text other more ≡ Ok (accepted_by j))
  accepted_by_same is = subst (λ (z : Result Accepted Refusal). IfOk r (λ j. z ≡ Ok (accepted_by j))) same_judgement is

  pub refused_by_same : IfErr r (IsFrameError (judged Queries service text name values)) → IfErr r (IsFrameError (judged Queries own text other more))
  refused_by_same is = subst (λ (z : Result Accepted Refusal). IfErr r (IsFrameError z)) same_judgement is

-- a refusal is written as it is judged
pub refusal_written : {X E : Type 0} (line : ℕ) (asked : Dispatch) (state : GatewayState) (refusal found : Refusal) (e : FrameError) (r : Result X E) (old new : List ℕ)
    → IsFrameError (judged Queries state.service asked.query asked.operation (tabled asked.variables)) e → e ≡ error.Refused found → refusal ≡ found
    → OnOk r (new ≡ old ++ refused_line line refusal) → OnOk r (new ≡ old ++ (dispatch_judged line asked state).text)
refusal_written line asked state refusal found e r old new told e_is found_is written =
    let is = subst (IsFrameError (judged Queries state.service asked.query asked.operation (tabled asked.variables))) e_is told in
    subst (λ (z : Result Accepted Refusal). OnOk r (new ≡ old ++ (operation_dispatched line asked.id state z).text)) (sym (is ∙ ap Err (sym found_is))) written
