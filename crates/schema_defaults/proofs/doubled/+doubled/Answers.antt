use Rattle.std.proofs.Common.{arith, Bool}
use Rattle.schema_defaults.specs.Doubled.{FieldDoubled, is_doubled, field_doubled}
use Rattle.schema_defaults.proofs.TestLaws.{any_next, any_holds}
use Rattle.schema_defaults.proofs.doubled.+doubled.Goals as goal

pub is_item_doubled-returns-then-branch : goal.is_item_doubled-returns-then-branch
is_item_doubled-returns-then-branch t c =
    any_holds (λ (d : Bool). d) is_doubled c.args.items.now c.items.item-index c.item-item.result _ _
    (omega arith) c.item-item.is c.items.invariant c.in_ok-is_doubled.ensures c.if-branch.true

pub is_item_doubled-items-preserved : goal.is_item_doubled-items-preserved
is_item_doubled-items-preserved t c =
    any_next (λ (d : Bool). d) is_doubled c.args.items.now c.items.item-index c.item-item.result _ _
    (omega arith) c.item-item.is c.items.invariant c.in_ok-is_doubled.ensures c.if-branch.false

pub is_field_doubled-returns-then-branch : goal.is_field_doubled-returns-then-branch
is_field_doubled-returns-then-branch t c =
    any_holds (λ (f : FieldDoubled). f.1) field_doubled c.args.fields.now c.fields.field-index c.field-item.result _ _
    (omega arith) c.field-item.is c.fields.invariant c.in_ok-is_value_of_field_doubled.ensures c.if-branch.true

pub is_field_doubled-fields-preserved : goal.is_field_doubled-fields-preserved
is_field_doubled-fields-preserved t c =
    any_next (λ (f : FieldDoubled). f.1) field_doubled c.args.fields.now c.fields.field-index c.field-item.result _ _
    (omega arith) c.field-item.is c.fields.invariant c.in_ok-is_value_of_field_doubled.ensures c.if-branch.false
