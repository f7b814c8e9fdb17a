use Rattle.std.proofs.Common.{◌≡◌, ◌+◌, ◌*◌, map, take}
use Rattle.std.specs.List.{filter_map}
use Rattle.gql_model.specs.declared.type_ref.TypeRef.{size-TypeRef}
use Rattle.answer_model.specs.Projection.{cut_within, member_cut, members_cut, value_cut}
use Rattle.answer_parts.specs.Heights.{height}
use Rattle.field_asking.specs.Asking.{executed, asked_field}
use Rattle.partial_reader.proofs.StepLaws.{weight}
use Rattle.partial_reader.proofs.cutting.Cutter.+cut.Given as goal

abbrev pub invariant-object_fields-fields : goal.invariant-object_fields-fields
invariant-object_fields-fields l =
    l.cut ≡ filter_map (member_cut (cut_within l.depth (executed l.self.asking.now)) l.self.asking.now.inputs.schema.now l.members) (map asked_field (take l.field-index l.fields))

abbrev pub invariant-items-items : goal.invariant-items-items
invariant-items-items l =
    l.values ≡ map (value_cut (members_cut (cut_within l.depth (executed l.self.asking.now)) l.self.asking.now.inputs.schema.now l.sets l.parent) l.wanted) (take l.item-index l.items)

-- an object is cut less deep than the one that leads to it, and a type's items are less high than the type

abbrev pub decreases-members : goal.decreases-members
decreases-members l = 8 * (l.depth * weight l.self.now.asking.now.inputs.schema.now)

abbrev pub decreases-object_fields : goal.decreases-object_fields
decreases-object_fields l = 8 * (l.depth * weight l.self.now.asking.now.inputs.schema.now + height l.self.now.asking.now.inputs.schema.now + 2) + 7

abbrev pub decreases-member : goal.decreases-member
decreases-member l = 8 * (l.depth * weight l.self.now.asking.now.inputs.schema.now + height l.self.now.asking.now.inputs.schema.now + 2) + 6

abbrev pub decreases-field : goal.decreases-field
decreases-field l = 8 * (l.depth * weight l.self.now.asking.now.inputs.schema.now + height l.self.now.asking.now.inputs.schema.now + 2) + 5

abbrev pub decreases-typed : goal.decreases-typed
decreases-typed l = 8 * (l.depth * weight l.self.now.asking.now.inputs.schema.now + size-TypeRef l.wanted.now + 1) + 7

abbrev pub decreases-value : goal.decreases-value
decreases-value l = 8 * (l.depth * weight l.self.now.asking.now.inputs.schema.now + size-TypeRef l.wanted.now + 1) + 5

abbrev pub decreases-items : goal.decreases-items
decreases-items l = 8 * (l.depth * weight l.self.now.asking.now.inputs.schema.now + size-TypeRef l.wanted.now + 1) + 6

abbrev pub decreases-object : goal.decreases-object
decreases-object l = 8 * (l.depth * weight l.self.now.asking.now.inputs.schema.now) + 1
