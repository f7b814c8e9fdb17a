use Rattle.std.proofs.Common.{◌≡◌, [], map, drop}
use Rattle.std.specs.Option.{option_copied}
use Rattle.execution_model.specs.Inputs.{items_into, members_into, free_member, field_member, given_of}
use Rattle.execution_model.specs.Offers.{offered}
use Rattle.offered_values.proofs.offers.+offers.Given as goal

abbrev pub invariant-items_given-items : goal.invariant-items_given-items
invariant-items_given-items l =
    items_into (option_copied l.wanted) [] (map (offered l.inputs.defaults.now l.inputs.schema.now) l.items)
    ≡ items_into (option_copied l.wanted) l.values (map (offered l.inputs.defaults.now l.inputs.schema.now) (drop l.item-index l.items))

abbrev pub invariant-free_members-members : goal.invariant-free_members-members
invariant-free_members-members l =
    members_into [] (map free_member (map (λ m. (m.0, offered l.inputs.defaults.now l.inputs.schema.now m.1)) l.member-items))
    ≡ members_into l.object.members (map free_member (map (λ m. (m.0, offered l.inputs.defaults.now l.inputs.schema.now m.1)) (drop l.member-index l.member-items)))

abbrev pub invariant-input_members-declared : goal.invariant-input_members-declared
invariant-input_members-declared l =
    members_into [] (map (field_member (option_copied l.values) (map (λ m. (m.0, offered l.inputs.defaults.now l.inputs.schema.now m.1)) l.members)) l.declared)
    ≡ members_into l.object.members (map (field_member (option_copied l.values) (map (λ m. (m.0, offered l.inputs.defaults.now l.inputs.schema.now m.1)) l.members)) (drop l.field-index l.declared))

abbrev pub invariant-member_given-members : goal.invariant-member_given-members
invariant-member_given-members l =
    given_of (map (λ m. (m.0, offered l.inputs.defaults.now l.inputs.schema.now m.1)) l.member-items) l.declared
    ≡ given_of (map (λ m. (m.0, offered l.inputs.defaults.now l.inputs.schema.now m.1)) (drop l.member-index l.member-items)) l.declared
