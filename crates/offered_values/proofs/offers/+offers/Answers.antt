use Rattle.std.proofs.Common.{ℕ, List, ap, sym, ◌∙◌, arith}
use Rattle.std.specs.Option.{option_map}
use Rattle.gql_value.specs.declared.value.Value.{Value}
use Rattle.execution_model.specs.Inputs.{next_members}
use Rattle.execution_model.specs.Offers.{offered}
use Rattle.offered_values.specs.declared.object.ObjectBuilder.{ObjectBuilder}
use Rattle.offered_values.proofs.IntoLaws.{free_next}
use Rattle.offered_values.proofs.offers.+offers.Goals as goal

pub free_members-members-preserved : goal.free_members-members-preserved
free_members-members-preserved t c =
    let defaults = c.args.inputs.now.defaults.now in
    let schema = c.args.inputs.now.schema.now in
    let member = c.member-item.result in
    let members = c.members.object.members in
    free_next (λ (m : List ℕ × Value). (m.0, offered defaults schema m.1)) c.as_slice-member-items.result.now c.members.member-index member members _ c.in-Some.next.members
    (omega arith) c.member-item.is c.members.invariant
    (ap (λ given. next_members member.0 given members) (sym c.in_ok-given.ensures)
    ∙ sym c.in_ok-next.ensures
    ∙ ap (option_map (λ (b : ObjectBuilder). b.members)) c.in-Some.is)
