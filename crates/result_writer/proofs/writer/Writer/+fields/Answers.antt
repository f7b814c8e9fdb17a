use Rattle.std.proofs.Common.{◌≡◌, ◌++◌, ◌∷◌, [], map, drop, length, ap, sym, subst, ◌∙◌, arith}
use Rattle.std.specs.declared.result.Result.TheVariants.{Ok, Err}
use Rattle.std.proofs.lemmas.Result.{err_from_is_err_and}
use Rattle.answer_model.specs.Writing as spec
use Rattle.field_asking.specs.Asking.{asked_field}
use Rattle.result_writer.specs.Results.{told, told_behind, Tells}
use Rattle.result_writer.specs.Views.{answered_of, object_of, field_of, found_of, way_of}
use Rattle.result_writer.specs.Ways as ways
use Rattle.result_writer.specs.Ways.{asked_written, found_written, walked, with_link, linked_behind}
use Rattle.result_writer.proofs.WriteLaws.{each_next, each_stop, each_done, one_level, no_level, typename_first, tells_at}
use Rattle.result_writer.proofs.WayLaws.{composite_told, link_first, misfit_last, misfit_before}
use Rattle.result_writer.proofs.writer.Writer.+fields.Goals as goal

pub write_all-fields-preserved : goal.write_all-fields-preserved
write_all-fields-preserved t c =
    each_next _ asked_field c.args.fields.now c.fields.asked-index c.asked-item.result c.fields.out c.in_ok-out.out _
    (omega arith) c.asked-item.is c.fields.invariant c.in_ok-out.ensures

pub write_all-returns-in_err-out : goal.write_all-returns-in_err-out
write_all-returns-in_err-out t c =
    let p = err_from_is_err_and c.from_residual.result c.from_residual.ensures.1 in
    rw (p.1, p.2)
    (each_stop _ asked_field c.args.fields.now c.fields.asked-index c.asked-item.result c.fields.out _ _
    (omega arith) c.asked-item.is c.fields.invariant c.in_err-out.ensures)

pub write_found-objects-preserved : goal.write_found-objects-preserved
write_found-objects-preserved t c =
    each_next _ found_of c.args.found.now c.objects.object-index c.object-item.result c.objects.out c.in_ok-out.out _
    (omega arith) c.object-item.is c.objects.invariant c.in_ok-out.ensures

pub write_found-returns-in_err-out : goal.write_found-returns-in_err-out
write_found-returns-in_err-out t c =
    let p = err_from_is_err_and c.from_residual.result c.from_residual.ensures.1 in
    rw (p.1, p.2)
    (each_stop _ found_of c.args.found.now c.objects.object-index c.object-item.result c.objects.out _ _
    (omega arith) c.object-item.is c.objects.invariant c.in_err-out.ensures)

pub write_fields-returns-then-depth-eq0 : goal.write_fields-returns-then-depth-eq0
write_fields-returns-then-depth-eq0 t c =
    no_level c.args.depth (answered_of c.args.self.now) (object_of c.args.object.now) (map asked_field c.args.object.now.fields.items) c.args.out c.if-depth-eq0.true

pub write_fields-returns : goal.write_fields-returns
write_fields-returns t c =
    tells_at c.write_all.result _ _
    (ap (told_behind c.args.out)
    (sym (one_level c.args.depth (answered_of c.args.self.now) (object_of c.args.object.now) (map asked_field c.args.object.now.fields.items) (omega (arith, c.if-depth-eq0.false)))))
    (rw c.as_slice.ensures.value at c.write_all.ensures)

pub write_composite-returns : goal.write_composite-returns
write_composite-returns t c =
    let answered = answered_of c.args.self.now in
    let field = field_of c.args.field.now in
    tells_at c.write_way.result _ _
    (ap (λ w. linked_behind c.args.out field.object field.asked (walked (found_written c.args.depth answered) w))
    (c.in_ok-way.ensures ∙ ap (λ objects. ways.way answered field c.args.wanted.now [] c.args.value.now (map found_of objects)) c.new.ensures.items)
    ∙ composite_told c.args.depth answered field c.args.wanted.now c.args.value.now c.args.out)
    c.write_way.ensures

pub write_way-returns-in-Ok : goal.write_way-returns-in-Ok
write_way-returns-in-Ok t c =
    let object = object_of c.args.object.now in
    let asked = asked_field c.args.asked.now in
    let w = spec.written_of_each (found_written c.args.depth (answered_of c.args.self.now)) (map found_of c.args.way.found.items) in
    tells_at c.write_found.result _ _
    (ap (λ before. told_behind before w) c.in_ok-out-in-Ok.ensures
    ∙ link_first c.args.out object asked c.in-Ok.link w
    ∙ ap (λ l. linked_behind c.args.out object asked (with_link l (told w))) (sym c.in-Ok.is))
    (rw c.as_slice.ensures.value at c.write_found.ensures)

pub write_object-returns : goal.write_object-returns
write_object-returns t c =
    let object = object_of c.args.object.now in
    let w = asked_written c.args.depth (answered_of c.args.self.now) object (map asked_field c.args.object.now.fields.items) in
    tells_at c.write_fields.result _ _
    (ap (λ before. told_behind before w) (c.in_ok-push.ensures.ok ∙ ap (λ first. c.args.out ++ first ∷ []) c.in_ok-typename_write.ensures)
    ∙ typename_first c.args.out (spec.typename_write object) w)
    c.write_fields.ensures
