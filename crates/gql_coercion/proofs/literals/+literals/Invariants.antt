use Rattle.std.proofs.Common.{◌≡◌, [], map, drop}
use Rattle.std.specs.Option.{option_copied}
use Rattle.execution_model.specs.Inputs.{items_into, members_into, free_member, field_member, given_of}
use Rattle.execution_model.specs.Literals.{literal_meaning, object_field_meaning}
use Rattle.gql_coercion.proofs.literals.+literals.Given as goal

abbrev pub invariant-items_given-items : goal.invariant-items_given-items
invariant-items_given-items l =
    items_into (option_copied l.wanted) [] (map (literal_meaning l.inputs.defaults.now l.inputs.schema.now l.variables) l.items)
    ≡ items_into (option_copied l.wanted) l.values (map (literal_meaning l.inputs.defaults.now l.inputs.schema.now l.variables) (drop l.item-index l.items))

abbrev pub invariant-free_members-fields : goal.invariant-free_members-fields
invariant-free_members-fields l =
    members_into [] (map free_member (map (object_field_meaning l.inputs.defaults.now l.inputs.schema.now l.variables) l.fields))
    ≡ members_into l.object.members (map free_member (map (object_field_meaning l.inputs.defaults.now l.inputs.schema.now l.variables) (drop l.field-index l.fields)))

abbrev pub invariant-input_members-declared : goal.invariant-input_members-declared
invariant-input_members-declared l =
    members_into [] (map (field_member (option_copied l.values) (map (object_field_meaning l.inputs.defaults.now l.inputs.schema.now l.variables) l.fields)) l.declared)
    ≡ members_into l.object.members (map (field_member (option_copied l.values) (map (object_field_meaning l.inputs.defaults.now l.inputs.schema.now l.variables) l.fields)) (drop l.field-index l.declared))

abbrev pub invariant-member_given-fields : goal.invariant-member_given-fields
invariant-member_given-fields l =
    given_of (map (object_field_meaning l.inputs.defaults.now l.inputs.schema.now l.variables) l.fields) l.declared
    ≡ given_of (map (object_field_meaning l.inputs.defaults.now l.inputs.schema.now l.variables) (drop l.field-index l.fields)) l.declared
