use Rattle.std.proofs.Common.{sym, ◌∙◌}
use Rattle.answer_model.specs.Paths.{begins}
use Rattle.answer_parts.proofs.PathLaws.{any_map}
use Rattle.answer_parts.proofs.errors.is_above_error.Goals as goal

pub returns : goal.returns
returns c = c.any_begins.ensures ∙ sym (any_map (begins c.args.path.now) (λ e. e.now) c.args.errors.now)
