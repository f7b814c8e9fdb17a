-- What the parts of a writer stand for.
use Rattle.std.specs.Prelude.{◌≡◌, map}
use Rattle.execution_model.specs.Fronts.{fronts_of}
use Rattle.checked_operation.specs.Acceptance.{IsWhole}
use Rattle.answer_model.specs.Writing as spec
use Rattle.field_asking.specs.declared.asking.Asking.{Asking}
use Rattle.field_asking.specs.Asking.{executed, asked_field}
use Rattle.result_writer.specs.declared.object.Object.{Object}
use Rattle.result_writer.specs.declared.object.Field.{Field}
use Rattle.result_writer.specs.declared.object.Way.{Way}
use Rattle.result_writer.specs.declared.writer.Writer.{Writer}
use Rattle.result_writer.specs.Ways as ways
use Rattle.result_writer.specs.Ways.{Found}

-- the numbering and the index are the document's, and `__typename` is put where it is when the operation is sent
pub record IsAsSent (asking : Asking) : Type 0 where
  pub whole : IsWhole asking.operation.now
  pub fronts : asking.fronts.now ≡ fronts_of asking.inputs.schema.now asking.operation.now.document

-- the operation that was answered
abbrev pub answered_of : Writer → spec.Answered
answered_of writer = record {
  execution = executed writer.asking.now;
  keys = writer.keys.now;
  errors = map (λ path. path.now) writer.errors.now;
}

-- an object of the answer
abbrev pub object_of : Object → spec.Object
object_of object = record {
  type = (object.named.0, object.named.1.now);
  entity = object.entity;
  members = object.members.members.now;
  path = object.path.items;
  keeps = object.keeps;
}

-- a field of composite type
abbrev pub field_of : Field → spec.Field
field_of field = record {
  object = object_of field.object.now;
  asked = asked_field field.asked.now;
  parent = field.parent;
}

-- an object that was found, and what is asked of it
abbrev pub found_of : Object → Found
found_of object = record { object = object_of object; asked = map asked_field object.fields.items }

-- a way through the lists of a field
abbrev pub way_of : Way → ways.Way
way_of way = record { link = way.link; found = map found_of way.found.items }
