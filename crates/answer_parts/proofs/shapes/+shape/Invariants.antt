use Rattle.std.proofs.Common.{◌≡◌, drop}
use Rattle.std.specs.List.{list_all}
use Rattle.answer_model.specs.Reading.{has_shape}
use Rattle.answer_parts.proofs.shapes.+shape.Given as goal

abbrev pub invariant-all_have_shape-links : goal.invariant-all_have_shape-links
invariant-all_have_shape-links l = list_all (has_shape l.wanted) l.links ≡ list_all (has_shape l.wanted) (drop l.link-index l.links)
