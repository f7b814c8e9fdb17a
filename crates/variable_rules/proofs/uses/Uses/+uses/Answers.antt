use Rattle.std.proofs.Common.{arith}
use Rattle.std.specs.Option.{option_copied}
use Rattle.check_model.specs.Usages.{UsagesAt, FieldUsages, usages_in, usages_in_field, wanted_at}
use Rattle.site_walk.proofs.WalkLaws.{fold_next_of}
use Rattle.variable_rules.specs.Places.{at_of, fields_of}
use Rattle.variable_rules.specs.Uses.{noted}
use Rattle.variable_rules.proofs.uses.Uses.+uses.Goals as goal

pub note_items-items-preserved : goal.note_items-items-preserved
note_items-items-preserved t c =
    fold_next_of noted (λ (usages : UsagesAt). usages (at_of c.args.at)) (usages_in c.args.schema.now)
    c.args.items.now c.items.item-index c.item-item.result _ _ _
    (omega arith) c.item-item.is c.items.invariant c.in_ok-note_literal.ensures

pub note_fields-fields-preserved : goal.note_fields-fields-preserved
note_fields-fields-preserved t c =
    fold_next_of noted (λ (f : FieldUsages). f.1 (wanted_at (fields_of (option_copied c.args.defined)) f.0)) (usages_in_field c.args.schema.now)
    c.args.fields.now c.fields.field-index c.field-item.result _ _ _
    (omega arith) c.field-item.is c.fields.invariant c.in_ok-note_field.ensures
