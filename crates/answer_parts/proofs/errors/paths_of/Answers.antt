use Rattle.std.proofs.Common.{ap, ◌∙◌, ◌++◌, arith}
use Rattle.std.specs.Option.{option_copied, option_to_list}
use Rattle.check_model.proofs.ListLaws.{next_given}
use Rattle.answer_model.specs.Paths.{error_path}
use Rattle.answer_parts.proofs.errors.paths_of.Goals as goal

pub errors-preserved : goal.errors-preserved
errors-preserved c =
    c.in_ok-push_if.ensures
    ∙ ap (λ paths. paths ++ option_to_list (option_copied c.error_path.result)) c.errors.invariant
    ∙ next_given error_path c.args.errors.now c.errors.error-index c.error-item.result _ (omega arith) c.error-item.is c.error_path.ensures
