-- A checked operation is judged as the definition says, and so is a document that isn't accepted.
use Rattle.std.proofs.Common.{◌≡◌, ℕ, List, Option, None, Some, Result, Ok, ap, sym, subst, ◌∙◌}
use Rattle.std.specs.Prelude.{IfOk, IfErr}
use Rattle.gql_model.specs.declared.document.Document.{Document}
use Rattle.check_model.specs.declared.refusal.Refusal.{Refusal as Ground}
use Rattle.execution_model.specs.Values.{Pairs}
use Rattle.checked_operation.specs.declared.checked.Checked.{Checked}
use Rattle.checked_operation.specs.Acceptance.{IsAcceptedAs}
use Rattle.machine_model.specs.declared.output.Refusal.{Refusal}
use Rattle.frame_reading.specs.declared.error.FrameError.{FrameError}
use Rattle.frame_reading.specs.declared.error.FrameError.TheVariants as error
use Rattle.frame_reading.specs.Errors.{IsFrameError}
use Rattle.judged_dispatch.specs.declared.service.Service.{Service}
use Rattle.judged_dispatch.specs.declared.kinds.Kinds.{Kinds}
use Rattle.judged_dispatch.specs.declared.judged.Judged.{Judged}
use Rattle.judged_dispatch.specs.Judged.{Accepted, choice_judged, validation_judged, document_judged}
use Rattle.judged_dispatch.specs.Told.{accepted_by, IsRefusalTold}

module _ (kinds : Kinds) (service : Service) (name : Option (List ℕ)) (values : Pairs) (document : Document) where
  module _ (checked : Checked) (same : checked.document ≡ document) (accepted : IsAcceptedAs service.schema name checked) where
    as_chosen : document_judged kinds service name values (Ok document) ≡ choice_judged kinds service values checked.document (Some checked.place)
    as_chosen =
        subst (λ (d : Document). document_judged kinds service name values (Ok d) ≡ choice_judged kinds service values checked.document (Some checked.place)) same
        (ap (validation_judged kinds service name values checked.document) accepted.unrefused ∙ ap (choice_judged kinds service values checked.document) accepted.chosen)

    pub still_accepted : (r : Result Judged FrameError) → IfOk r (λ j. choice_judged kinds service values checked.document (Some checked.place) ≡ Ok (accepted_by j))
        → IfOk r (λ j. document_judged kinds service name values (Ok document) ≡ Ok (accepted_by j))
    still_accepted r is = subst (λ (z : Result Accepted Refusal). IfOk r (λ j. z ≡ Ok (accepted_by j))) (sym as_chosen) is

    pub still_refused : (r : Result Judged FrameError) → IfErr r (IsFrameError (choice_judged kinds service values checked.document (Some checked.place)))
        → IfErr r (IsFrameError (document_judged kinds service name values (Ok document)))
    still_refused r is = subst (λ (z : Result Accepted Refusal). IfErr r (IsFrameError z)) (sym as_chosen) is

  pub refusal_told : (found : Option Ground) (e : FrameError) → IsRefusalTold found e → IsFrameError (validation_judged kinds service name values document found) e
  refusal_told found error.Memory is = tt
  refusal_told None (error.Refused refusal) is = absurd (cc)
  refusal_told (Some reason) (error.Refused refusal) is = cc
