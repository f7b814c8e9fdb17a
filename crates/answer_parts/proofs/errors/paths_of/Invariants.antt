use Rattle.std.proofs.Common.{◌≡◌, map, take}
use Rattle.std.specs.List.{filter_map}
use Rattle.answer_model.specs.Paths.{error_path}
use Rattle.answer_parts.proofs.errors.paths_of.Given as goal

abbrev pub invariant-errors : goal.invariant-errors
invariant-errors l = map (λ p. p.now) l.paths ≡ filter_map error_path (take l.error-index l.errors)
