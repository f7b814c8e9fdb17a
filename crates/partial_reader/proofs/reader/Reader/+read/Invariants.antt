use Rattle.std.proofs.Common.{◌+◌, ◌*◌}
use Rattle.gql_model.specs.declared.type_ref.TypeRef.{size-TypeRef}
use Rattle.answer_model.specs.Reading.{entity_found, item_found, position_of}
use Rattle.answer_parts.specs.Heights.{height}
use Rattle.field_asking.specs.Asking.{executed}
use Rattle.partial_reader.specs.Walks.{found_within, linked}
use Rattle.partial_reader.proofs.StepLaws.{Gone, Walked, weight}
use Rattle.partial_reader.proofs.reader.Reader.+read.Given as goal

abbrev pub invariant-object_fields-fields : goal.invariant-object_fields-fields
invariant-object_fields-fields g l =
    Walked
    (position_of (found_within l.depth (executed l.self.asking.now) (g.C.Lookup.cells l.self.cells.now)) l.self.asking.now.inputs.schema.now (g.C.Lookup.cells l.self.cells.now) (l.fn.of.0, l.fn.of.1.now) l.entity)
    l.fields l.field-index l.object l.fn.trail l.trail l.fn.steps l.steps

abbrev pub invariant-items-links : goal.invariant-items-links
invariant-items-links g l =
    Gone
    (item_found (linked (entity_found (found_within l.depth (executed l.self.asking.now) (g.C.Lookup.cells l.self.cells.now)) l.self.asking.now.inputs.schema.now (g.C.Lookup.cells l.self.cells.now) l.sets l.parent) l.wanted))
    l.links l.link-index l.values l.fn.trail l.trail l.fn.steps l.steps

-- an object is read less deep than the one that leads to it, and a type's items are less high than the type

abbrev pub decreases-object : goal.decreases-object
decreases-object g l = 8 * (l.depth * weight l.self.now.asking.now.inputs.schema.now)

abbrev pub decreases-object_fields : goal.decreases-object_fields
decreases-object_fields g l = 8 * (l.depth * weight l.self.now.asking.now.inputs.schema.now + height l.self.now.asking.now.inputs.schema.now + 2) + 7

abbrev pub decreases-position : goal.decreases-position
decreases-position g l = 8 * (l.depth * weight l.self.now.asking.now.inputs.schema.now + height l.self.now.asking.now.inputs.schema.now + 2) + 6

abbrev pub decreases-field : goal.decreases-field
decreases-field g l = 8 * (l.depth * weight l.self.now.asking.now.inputs.schema.now + height l.self.now.asking.now.inputs.schema.now + 2) + 5

abbrev pub decreases-cell : goal.decreases-cell
decreases-cell g l = 8 * (l.depth * weight l.self.now.asking.now.inputs.schema.now + size-TypeRef l.wanted.now + 1) + 7

abbrev pub decreases-composite : goal.decreases-composite
decreases-composite g l = 8 * (l.depth * weight l.self.now.asking.now.inputs.schema.now + size-TypeRef l.wanted.now + 1) + 6

abbrev pub decreases-link : goal.decreases-link
decreases-link g l = 8 * (l.depth * weight l.self.now.asking.now.inputs.schema.now + size-TypeRef l.wanted.now + 1) + 5

abbrev pub decreases-items : goal.decreases-items
decreases-items g l = 8 * (l.depth * weight l.self.now.asking.now.inputs.schema.now + size-TypeRef l.wanted.now + 1) + 6

abbrev pub decreases-entity : goal.decreases-entity
decreases-entity g l = 8 * (l.depth * weight l.self.now.asking.now.inputs.schema.now) + 2

abbrev pub decreases-object_value : goal.decreases-object_value
decreases-object_value g l = 8 * (l.depth * weight l.self.now.asking.now.inputs.schema.now) + 1
