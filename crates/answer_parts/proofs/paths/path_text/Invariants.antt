use Rattle.std.proofs.Common.{◌≡◌, take}
use Rattle.answer_model.specs.Paths.{path_text}
use Rattle.answer_parts.proofs.paths.path_text.Given as goal

abbrev pub invariant-steps : goal.invariant-steps
invariant-steps l = l.text ≡ path_text (take l.step-index l.path)
