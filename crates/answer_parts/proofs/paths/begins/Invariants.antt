use Rattle.std.proofs.Common.{◌≡◌, drop}
use Rattle.answer_model.specs.Paths.{begins}
use Rattle.answer_parts.proofs.paths.begins.Given as goal

abbrev pub invariant-path : goal.invariant-path
invariant-path l = begins l.path l.steps ≡ begins (drop l.step-index l.path) l.left
