use Rattle.std.proofs.Common.{◌≡◌, [], map, drop}
use Rattle.result_writer.specs.Views.{answered_of, field_of, found_of}
use Rattle.result_writer.specs.Ways as spec
use Rattle.result_writer.proofs.writer.Writer.+way.Given as goal

-- the items that are left take the way to where all of them take it
abbrev pub invariant-items_way-values : goal.invariant-items_way-values
invariant-items_way-values l =
    spec.items_way (spec.way (answered_of l.self) (field_of l.field) l.item) l.places 0 l.values [] (map found_of l.fn.found.items)
    ≡ spec.items_way (spec.way (answered_of l.self) (field_of l.field) l.item) l.places l.at (drop l.at l.values) l.links (map found_of l.found.items)
