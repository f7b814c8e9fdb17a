use Rattle.std.proofs.Common.{◌≡◌, ◌++◌, map, take}
use Rattle.answer_model.specs.declared.step.Step.TheVariants.{Index}
use Rattle.result_writer.proofs.paths.push_places.Given as goal

abbrev pub invariant-places : goal.invariant-places
invariant-places l = l.path.items ≡ l.initial.path.items ++ map Index (take l.place-index l.places)
