use Rattle.std.proofs.Common.{◌≡◌, ◌+◌, ◌*◌, map, drop}
use Rattle.answer_model.specs.Writing as spec
use Rattle.field_asking.specs.Asking.{asked_field}
use Rattle.result_writer.specs.Results.{told_behind}
use Rattle.result_writer.specs.Views.{answered_of, object_of, found_of}
use Rattle.result_writer.specs.Ways.{found_written}
use Rattle.result_writer.proofs.writer.Writer.+fields.Given as goal

-- the fields that are left write the rest of what all of them write
abbrev pub invariant-write_all-fields : goal.invariant-write_all-fields
invariant-write_all-fields l =
    told_behind l.fn.out (spec.written_of_each (spec.field_written (spec.fields_written_within l.depth (answered_of l.self)) (answered_of l.self) (object_of l.object)) (map asked_field l.fields))
    ≡ told_behind l.out (spec.written_of_each (spec.field_written (spec.fields_written_within l.depth (answered_of l.self)) (answered_of l.self) (object_of l.object)) (map asked_field (drop l.asked-index l.fields)))

-- the objects that are left write the rest of what all of them write
abbrev pub invariant-write_found-objects : goal.invariant-write_found-objects
invariant-write_found-objects l =
    told_behind l.fn.out (spec.written_of_each (found_written l.depth (answered_of l.self)) (map found_of l.found))
    ≡ told_behind l.out (spec.written_of_each (found_written l.depth (answered_of l.self)) (map found_of (drop l.object-index l.found)))

-- the objects of a field are one level deeper
abbrev pub decreases-write_fields : goal.decreases-write_fields
decreases-write_fields l = 10 * l.depth

abbrev pub decreases-write_object : goal.decreases-write_object
decreases-write_object l = 10 * l.depth + 1

abbrev pub decreases-write_found : goal.decreases-write_found
decreases-write_found l = 10 * l.depth + 2

abbrev pub decreases-write_way : goal.decreases-write_way
decreases-write_way l = 10 * l.depth + 3

abbrev pub decreases-write_composite : goal.decreases-write_composite
decreases-write_composite l = 10 * l.depth + 4

abbrev pub decreases-write_filled : goal.decreases-write_filled
decreases-write_filled l = 10 * l.depth + 5

abbrev pub decreases-write_value : goal.decreases-write_value
decreases-write_value l = 10 * l.depth + 6

abbrev pub decreases-write_member : goal.decreases-write_member
decreases-write_member l = 10 * l.depth + 7

abbrev pub decreases-write_field : goal.decreases-write_field
decreases-write_field l = 10 * l.depth + 8

abbrev pub decreases-write_all : goal.decreases-write_all
decreases-write_all l = 10 * l.depth + 9
