use Rattle.std.proofs.Common.{ap, sym, ◌∙◌, arith}
use Rattle.std.specs.Prelude.{None}
use Rattle.std.specs.Option.{option_map}
use Rattle.gql_model.specs.declared.literal.ObjectField.{out-ObjectField}
use Rattle.execution_model.specs.Inputs.{next_members}
use Rattle.execution_model.specs.Literals.{object_field_meaning}
use Rattle.offered_values.specs.declared.object.ObjectBuilder.{ObjectBuilder}
use Rattle.offered_values.proofs.IntoLaws.{free_next}
use Rattle.gql_coercion.proofs.FieldLaws.{field_is}
use Rattle.gql_coercion.proofs.literals.+literals.Goals as goal

pub free_members-fields-preserved : goal.free_members-fields-preserved
free_members-fields-preserved t c =
    let defaults = c.args.inputs.now.defaults.now in
    let schema = c.args.inputs.now.schema.now in
    let variables = c.args.variables.now in
    let field = c.field-item.result in
    let members = c.fields.object.members in
    free_next (object_field_meaning defaults schema variables) c.args.fields.now c.fields.field-index field members _ c.in-Some.next.members
    (omega arith) c.field-item.is c.fields.invariant
    (ap (λ m. next_members m.0 (m.1 None) members) (field_is defaults schema variables field)
    ∙ ap (λ given. next_members (out-ObjectField field).name.text given members) (sym c.in_ok-given.ensures)
    ∙ sym c.in_ok-next.ensures
    ∙ ap (option_map (λ (b : ObjectBuilder). b.members)) c.in-Some.is)
