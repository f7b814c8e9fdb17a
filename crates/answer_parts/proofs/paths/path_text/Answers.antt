use Rattle.std.proofs.Common.{sym, ap, ◌∙◌, ◌∷◌, ◌++◌, arith}
use Rattle.answer_model.specs.Paths.{step_text}
use Rattle.answer_parts.proofs.PathLaws.{path_more}
use Rattle.answer_parts.proofs.paths.path_text.Goals as goal

pub steps-preserved : goal.steps-preserved
steps-preserved c =
    c.in_ok-push_step.ensures
    ∙ ap (λ text. text ++ (46 ∷ step_text c.step-item.result)) c.steps.invariant
    ∙ sym (path_more c.args.path.now c.steps.step-index c.step-item.result (omega arith) c.step-item.is)
