use Rattle.std.proofs.Common.{◌≡◌, ◌+◌, ◌≤◌, List, [], length, sym, ap, ◌∙◌, refl, subst, map, arith, IfOk, OnOk, OnErr}
use Rattle.std.specs.Option.{option_copied, option_map, option_map_or}
use Rattle.execution_model.specs.Values.{list_value}
use Rattle.answer_model.specs.Reading.{Found, Position, composite_found, entity_found, is_required, item_found, leaf_found, member_found, position_found, position_of}
use Rattle.field_asking.specs.Asking.{executed, asked_field}
use Rattle.partial_reader.specs.Walks.{after, after_all, found_within, linked, looks, no_fields, with_positions}
use Rattle.partial_reader.proofs.FoundLaws.{required_is}
use Rattle.partial_reader.proofs.StepLaws.{gone_next, item_given, position_counted, position_read, position_went, positions_are, walked_next, walked_within, gone_given, gone_went, gone_counted, gone_bounded, or_null_few, on_err, drop_end}
use Rattle.partial_reader.proofs.reader.Reader.+read.Goals as goal

pub object-returns-clause-object : goal.object-returns-clause-object
object-returns-clause-object g t c =
    let are = positions_are c.args.depth (executed c.args.self.now.asking.now) (g.C.Lookup.cells c.args.self.now.cells.now) c.args.sets.now (c.args.of.0, c.args.of.1.now) c.args.entity.now
    [] c.as_slice.result.now (omega arith) refl (ap (map asked_field) c.as_slice.ensures.value ∙ c.in_ok-fields.ensures.fields) in
    subst (λ (ps : List Position). IfOk c.object_fields.result (λ o. o ≡ with_positions no_fields ps)) (sym are) c.object_fields.ensures.object

pub object-returns-clause-trail : goal.object-returns-clause-trail
object-returns-clause-trail g t c =
    let are = positions_are c.args.depth (executed c.args.self.now.asking.now) (g.C.Lookup.cells c.args.self.now.cells.now) c.args.sets.now (c.args.of.0, c.args.of.1.now) c.args.entity.now
    [] c.as_slice.result.now (omega arith) refl (ap (map asked_field) c.as_slice.ensures.value ∙ c.in_ok-fields.ensures.fields) in
    subst (λ (ps : List Position). OnOk c.object_fields.result (c.object_fields.new.trail ≡ after_all c.args.trail.now (map member_found ps))) (sym are) c.object_fields.ensures.trail

pub object-returns-clause-counted : goal.object-returns-clause-counted
object-returns-clause-counted g t c =
    let are = positions_are c.args.depth (executed c.args.self.now.asking.now) (g.C.Lookup.cells c.args.self.now.cells.now) c.args.sets.now (c.args.of.0, c.args.of.1.now) c.args.entity.now
    [] c.as_slice.result.now (omega arith) refl (ap (map asked_field) c.as_slice.ensures.value ∙ c.in_ok-fields.ensures.fields) in
    subst (λ (ps : List Position). OnOk c.object_fields.result (c.object_fields.new.steps ≡ c.args.steps.now + looks (map member_found ps))) (sym are) c.object_fields.ensures.counted

pub object-returns-clause-bounded : goal.object-returns-clause-bounded
object-returns-clause-bounded g t c =
    let are = positions_are c.args.depth (executed c.args.self.now.asking.now) (g.C.Lookup.cells c.args.self.now.cells.now) c.args.sets.now (c.args.of.0, c.args.of.1.now) c.args.entity.now
    [] c.as_slice.result.now (omega arith) refl (ap (map asked_field) c.as_slice.ensures.value ∙ c.in_ok-fields.ensures.fields) in
    subst (λ (ps : List Position). OnErr c.object_fields.result (c.object_fields.new.steps ≤ c.args.steps.now + looks (map member_found ps))) (sym are) c.object_fields.ensures.bounded

pub object_fields-fields-preserved : goal.object_fields-fields-preserved
object_fields-fields-preserved g t c =
    let reading = executed c.args.self.now.asking.now in
    let cells = g.C.Lookup.cells c.args.self.now.cells.now in
    let schema = c.args.self.now.asking.now.inputs.schema.now in
    let follow = found_within c.args.depth reading cells in
    let place = position_of follow schema cells (c.args.of.0, c.args.of.1.now) c.args.entity.now in
    let asked = asked_field c.field-item.result in
    let found = position_found follow schema cells (c.args.of.0, c.args.of.1.now) c.args.entity.now asked in
    walked_next place c.args.fields.now c.fields.field-index c.field-item.result c.fields.object _ c.args.trail.now c.fields.trail _ c.args.steps.now c.fields.steps _
    (omega arith) c.field-item.is refl c.fields.invariant
    (position_read c.fields.object _ asked found _ c.in_ok-found.found _ _ c.is_required.ensures c.in_ok-found.ensures.value c.or_null-value.ensures.value c.is_something-something.ensures c.in_ok-object.ensures)
    (position_went c.fields.trail _ _ _ (is_required asked) found c.in_ok-found.found c.is_required.ensures c.in_ok-found.ensures.value c.in_ok-found.ensures.trail c.or_null-value.ensures.trail)
    (position_counted c.fields.steps _ (is_required asked) found c.in_ok-found.ensures.counted)

pub items-links-preserved : goal.items-links-preserved
items-links-preserved g t c =
    let reading = executed c.args.self.now.asking.now in
    let cells = g.C.Lookup.cells c.args.self.now.cells.now in
    let schema = c.args.self.now.asking.now.inputs.schema.now in
    let entity = entity_found (found_within c.args.depth reading cells) schema cells c.args.sets.now c.args.parent in
    let at = linked entity c.args.wanted.now in
    let found = at.1 c.link-item.result in
    let required = c.is_non_null.ensures ∙ sym (required_is entity c.args.wanted.now) in
    gone_next (item_found at) c.args.links.now c.links.link-index c.link-item.result c.links.values _ c.args.trail.now c.links.trail _ c.args.steps.now c.links.steps _
    (omega arith) c.link-item.is c.links.invariant
    (item_given c.links.values _ _ c.in_ok-found.found _ at.0 found required c.in_ok-found.ensures.value c.or_null-value.ensures.value c.in_ok-values.ensures)
    (position_went c.links.trail _ _ _ at.0 found c.in_ok-found.found required c.in_ok-found.ensures.value c.in_ok-found.ensures.trail c.or_null-value.ensures.trail)
    (position_counted c.links.steps _ at.0 found c.in_ok-found.ensures.counted)

pub items-returns-clause-value : goal.items-returns-clause-value
items-returns-clause-value g t c =
    let reading = executed c.args.self.now.asking.now in
    let cells = g.C.Lookup.cells c.args.self.now.cells.now in
    let schema = c.args.self.now.asking.now.inputs.schema.now in
    let entity = entity_found (found_within c.args.depth reading cells) schema cells c.args.sets.now c.args.parent in
    let at = linked entity c.args.wanted.now in
    c.listed.ensures
    ∙ ap (option_map list_value)
    (gone_given (item_found at) c.args.links.now c.links.link-index c.links.values _ _ _ _ c.links.invariant (drop_end c.args.links.now c.links.link-index (omega arith)))

pub items-returns-clause-trail : goal.items-returns-clause-trail
items-returns-clause-trail g t c =
    let reading = executed c.args.self.now.asking.now in
    let cells = g.C.Lookup.cells c.args.self.now.cells.now in
    let schema = c.args.self.now.asking.now.inputs.schema.now in
    let entity = entity_found (found_within c.args.depth reading cells) schema cells c.args.sets.now c.args.parent in
    let at = linked entity c.args.wanted.now in
    gone_went (item_found at) c.args.links.now c.links.link-index c.links.values _ _ _ _ c.links.invariant (drop_end c.args.links.now c.links.link-index (omega arith))

pub items-returns-clause-counted : goal.items-returns-clause-counted
items-returns-clause-counted g t c =
    let reading = executed c.args.self.now.asking.now in
    let cells = g.C.Lookup.cells c.args.self.now.cells.now in
    let schema = c.args.self.now.asking.now.inputs.schema.now in
    let entity = entity_found (found_within c.args.depth reading cells) schema cells c.args.sets.now c.args.parent in
    let at = linked entity c.args.wanted.now in
    gone_counted (item_found at) c.args.links.now c.links.link-index c.links.values _ _ _ _ c.links.invariant (drop_end c.args.links.now c.links.link-index (omega arith))

pub items-returns-in_err-found-clause-bounded : goal.items-returns-in_err-found-clause-bounded
items-returns-in_err-found-clause-bounded g t c =
    let reading = executed c.args.self.now.asking.now in
    let cells = g.C.Lookup.cells c.args.self.now.cells.now in
    let schema = c.args.self.now.asking.now.inputs.schema.now in
    let entity = entity_found (found_within c.args.depth reading cells) schema cells c.args.sets.now c.args.parent in
    let at = linked entity c.args.wanted.now in
    on_err _
    (gone_bounded (item_found at) c.args.links.now c.links.link-index c.link-item.result c.links.values _ _ _ _ _ (omega arith) c.link-item.is c.links.invariant
    (or_null_few c.links.steps _ at.0 (at.1 c.link-item.result) c.in_err-found.ensures.bounded))

pub items-returns-in_err-values-clause-bounded : goal.items-returns-in_err-values-clause-bounded
items-returns-in_err-values-clause-bounded g t c =
    let reading = executed c.args.self.now.asking.now in
    let cells = g.C.Lookup.cells c.args.self.now.cells.now in
    let schema = c.args.self.now.asking.now.inputs.schema.now in
    let entity = entity_found (found_within c.args.depth reading cells) schema cells c.args.sets.now c.args.parent in
    let at = linked entity c.args.wanted.now in
    on_err _
    (gone_bounded (item_found at) c.args.links.now c.links.link-index c.link-item.result c.links.values _ _ _ _ _ (omega arith) c.link-item.is c.links.invariant
    (or_null_few c.links.steps c.link.new.steps at.0 (at.1 c.link-item.result) (omega (arith, c.in_ok-found.ensures.counted))))

pub object_fields-returns-in_err-found-clause-bounded : goal.object_fields-returns-in_err-found-clause-bounded
object_fields-returns-in_err-found-clause-bounded g t c =
    let reading = executed c.args.self.now.asking.now in
    let cells = g.C.Lookup.cells c.args.self.now.cells.now in
    let schema = c.args.self.now.asking.now.inputs.schema.now in
    let follow = found_within c.args.depth reading cells in
    let place = position_of follow schema cells (c.args.of.0, c.args.of.1.now) c.args.entity.now in
    let asked = asked_field c.field-item.result in
    let found = position_found follow schema cells (c.args.of.0, c.args.of.1.now) c.args.entity.now asked in
    on_err _
    (walked_within place c.args.fields.now c.fields.field-index c.field-item.result c.fields.object _ _ _ _ _ (omega arith) c.field-item.is c.fields.invariant
    (or_null_few c.fields.steps _ (is_required asked) found c.in_err-found.ensures.bounded))

pub object_fields-returns-in_err-object-clause-bounded : goal.object_fields-returns-in_err-object-clause-bounded
object_fields-returns-in_err-object-clause-bounded g t c =
    let reading = executed c.args.self.now.asking.now in
    let cells = g.C.Lookup.cells c.args.self.now.cells.now in
    let schema = c.args.self.now.asking.now.inputs.schema.now in
    let follow = found_within c.args.depth reading cells in
    let place = position_of follow schema cells (c.args.of.0, c.args.of.1.now) c.args.entity.now in
    let asked = asked_field c.field-item.result in
    let found = position_found follow schema cells (c.args.of.0, c.args.of.1.now) c.args.entity.now asked in
    on_err _
    (walked_within place c.args.fields.now c.fields.field-index c.field-item.result c.fields.object _ _ _ _ _ (omega arith) c.field-item.is c.fields.invariant
    (or_null_few c.fields.steps c.position.new.steps (is_required asked) found (omega (arith, c.in_ok-found.ensures.counted))))

pub cell-returns-in-Some-clause-value : goal.cell-returns-in-Some-clause-value
cell-returns-in-Some-clause-value g t c =
    let reading = executed c.args.self.now.asking.now in
    let cells = g.C.Lookup.cells c.args.self.now.cells.now in
    let schema = c.args.self.now.asking.now.inputs.schema.now in
    let follow = found_within c.args.depth reading cells in
    let asked = asked_field c.args.field.now in
    let wanted = c.args.wanted.now in
    let at = option_copied c.args.cell in
    let found =
    ap (λ p. option_map_or (λ q. composite_found (entity_found follow schema cells asked.sets q) wanted at) p (leaf_found schema wanted at)) (sym c.parent_below.ensures ∙ c.in-Some.is)
    ∙ ap (λ sets. composite_found (entity_found follow schema cells sets c.in-Some.parent) wanted at) (sym c.as_slice-sets.ensures) in
    subst (λ (f : Found). IfOk c.composite.result (λ v. v ≡ f.value)) (sym found) c.composite.ensures.value

pub cell-returns-in-Some-clause-trail : goal.cell-returns-in-Some-clause-trail
cell-returns-in-Some-clause-trail g t c =
    let reading = executed c.args.self.now.asking.now in
    let cells = g.C.Lookup.cells c.args.self.now.cells.now in
    let schema = c.args.self.now.asking.now.inputs.schema.now in
    let follow = found_within c.args.depth reading cells in
    let asked = asked_field c.args.field.now in
    let wanted = c.args.wanted.now in
    let at = option_copied c.args.cell in
    let found =
    ap (λ p. option_map_or (λ q. composite_found (entity_found follow schema cells asked.sets q) wanted at) p (leaf_found schema wanted at)) (sym c.parent_below.ensures ∙ c.in-Some.is)
    ∙ ap (λ sets. composite_found (entity_found follow schema cells sets c.in-Some.parent) wanted at) (sym c.as_slice-sets.ensures) in
    subst (λ (f : Found). OnOk c.composite.result (c.composite.new.trail ≡ after c.args.trail.now f)) (sym found) c.composite.ensures.trail

pub cell-returns-in-Some-clause-counted : goal.cell-returns-in-Some-clause-counted
cell-returns-in-Some-clause-counted g t c =
    let reading = executed c.args.self.now.asking.now in
    let cells = g.C.Lookup.cells c.args.self.now.cells.now in
    let schema = c.args.self.now.asking.now.inputs.schema.now in
    let follow = found_within c.args.depth reading cells in
    let asked = asked_field c.args.field.now in
    let wanted = c.args.wanted.now in
    let at = option_copied c.args.cell in
    let found =
    ap (λ p. option_map_or (λ q. composite_found (entity_found follow schema cells asked.sets q) wanted at) p (leaf_found schema wanted at)) (sym c.parent_below.ensures ∙ c.in-Some.is)
    ∙ ap (λ sets. composite_found (entity_found follow schema cells sets c.in-Some.parent) wanted at) (sym c.as_slice-sets.ensures) in
    subst (λ (f : Found). OnOk c.composite.result (c.composite.new.steps ≡ c.args.steps.now + length f.visited)) (sym found) c.composite.ensures.counted
