use Rattle.std.proofs.Common.{◌≡◌, ◌+◌, map, drop, sym, ap, ◌∙◌, arith}
use Rattle.result_writer.specs.Views.{answered_of, field_of, found_of, way_of}
use Rattle.result_writer.specs.Ways as spec
use Rattle.result_writer.proofs.WayLaws.{items_next, items_stop}
use Rattle.result_writer.proofs.writer.Writer.+way.Goals as goal

pub items_way-values-preserved : goal.items_way-values-preserved
items_way-values-preserved t c =
    let go = spec.way (answered_of c.args.self.now) (field_of c.args.field.now) c.args.item.now in
    let places = c.args.places.now in
    let values = c.args.values.now in
    let at = c.values.at in
    let w = way_of c.in_ok-way.way in
    items_next go places c.as_slice.result.now values at c.index-values-at.result c.values.links (map found_of c.values.found.items) _ w c.in-Ok.link
    (omega arith) c.index-values-at.is c.values.invariant (c.as_slice.ensures.value ∙ c.in_ok-inner.ensures) c.in_ok-way.ensures c.in-Ok.is
    ∙ ap (λ links. spec.items_way go places (at + 1) (drop (at + 1) values) links w.found) (sym (rw c.in-Ok.is at c.in_ok-push-in-Ok.ensures.ok))

pub items_way-returns-in-Err : goal.items_way-returns-in-Err
items_way-returns-in-Err t c =
    let go = spec.way (answered_of c.args.self.now) (field_of c.args.field.now) c.args.item.now in
    let places = c.args.places.now in
    let values = c.args.values.now in
    let at = c.values.at in
    let w = way_of c.in_ok-way.way in
    rw c.in-Err.is (sym (items_stop go places c.as_slice.result.now values at c.index-values-at.result c.values.links (map found_of c.values.found.items) _ w c.in-Err.path
    (omega arith) c.index-values-at.is c.values.invariant (c.as_slice.ensures.value ∙ c.in_ok-inner.ensures) c.in_ok-way.ensures c.in-Err.is))
