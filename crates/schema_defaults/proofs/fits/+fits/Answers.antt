use Rattle.std.proofs.Common.{arith}
use Rattle.schema_defaults.specs.Fits.{Fit, literal_fits, object_field_fits, field_fits}
use Rattle.schema_defaults.proofs.TestLaws.{all_next, all_fails}
use Rattle.schema_defaults.proofs.fits.+fits.Goals as goal

pub items_fit-returns-then-not-branch : goal.items_fit-returns-then-not-branch
items_fit-returns-then-not-branch t c =
    all_fails (λ (f : Fit). f c.args.wanted.now) (literal_fits c.args.schema.now) c.args.items.now c.items.item-index c.item-item.result _ c.in_ok-literal_fits.field-0
    (omega arith) c.item-item.is c.items.invariant c.in_ok-literal_fits.ensures (grind arith)

pub items_fit-items-preserved : goal.items_fit-items-preserved
items_fit-items-preserved t c =
    all_next (λ (f : Fit). f c.args.wanted.now) (literal_fits c.args.schema.now) c.args.items.now c.items.item-index c.item-item.result _ c.in_ok-literal_fits.field-0
    (omega arith) c.item-item.is c.items.invariant c.in_ok-literal_fits.ensures (grind arith)

pub each_field_fits-returns-then-not-branch : goal.each_field_fits-returns-then-not-branch
each_field_fits-returns-then-not-branch t c =
    all_fails (field_fits c.args.declared.now) (object_field_fits c.args.schema.now) c.args.fields.now c.fields.field-index c.field-item.result _ c.in_ok-field_fits.field-0
    (omega arith) c.field-item.is c.fields.invariant c.in_ok-field_fits.ensures (grind arith)

pub each_field_fits-fields-preserved : goal.each_field_fits-fields-preserved
each_field_fits-fields-preserved t c =
    all_next (field_fits c.args.declared.now) (object_field_fits c.args.schema.now) c.args.fields.now c.fields.field-index c.field-item.result _ c.in_ok-field_fits.field-0
    (omega arith) c.field-item.is c.fields.invariant c.in_ok-field_fits.ensures (grind arith)
