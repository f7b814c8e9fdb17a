use Rattle.std.proofs.Common.{◌≡◌, [], refl, sym, ap, ◌∙◌, subst, map, arith, IfOk}
use Rattle.schema_model.specs.Tables.{entry}
use Rattle.execution_model.specs.Values.{Pairs}
use Rattle.answer_model.specs.Projection.{cut_within}
use Rattle.field_asking.specs.Asking.{executed, asked_field}
use Rattle.partial_reader.proofs.CutLaws.{cut_is, lacks_cut, pushed}
use Rattle.partial_reader.proofs.cutting.Cutter.+cut.Goals as goal

pub members-returns : goal.members-returns
members-returns t c =
    subst (λ (ms : Pairs). IfOk c.object_fields.result (λ cut. cut ≡ ms))
    (sym (cut_is c.args.depth (executed c.args.self.now.asking.now) c.args.sets.now c.args.object c.args.members.now [] c.as_slice.result.now
    (omega arith) refl (ap (map asked_field) c.as_slice.ensures.value ∙ c.in_ok-fields.ensures.fields)))
    c.object_fields.ensures

pub object_fields-push_member-requires : goal.object_fields-push_member-requires
object_fields-push_member-requires t c =
    lacks_cut (cut_within c.args.depth (executed c.args.self.now.asking.now)) c.args.self.now.asking.now.inputs.schema.now c.args.members.now
    c.args.fields.now c.fields.field-index c.field-item.result c.fields.cut (omega arith) c.field-item.is c.requires.keys c.fields.invariant

pub object_fields-fields-preserved : goal.object_fields-fields-preserved
object_fields-fields-preserved t c =
    pushed (cut_within c.args.depth (executed c.args.self.now.asking.now)) c.args.self.now.asking.now.inputs.schema.now c.args.members.now
    c.args.fields.now c.fields.field-index c.field-item.result c.fields.cut _ _ _ (omega arith) c.field-item.is c.fields.invariant
    (c.get.ensures ∙ ap (λ ms. entry ms (asked_field c.field-item.result).key) c.in_ok-found.ensures) c.in_ok-value.ensures c.in_ok-push_member.ensures
