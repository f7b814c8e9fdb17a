use Rattle.check_model.specs.SameValues.{same_literal, same_object_field}
use Rattle.merge_rules.proofs.SameLaws.{differ_in_length}
use Rattle.merge_rules.proofs.same.+same.Goals as goal

pub same_items-returns-then-items-others : goal.same_items-returns-then-items-others
same_items-returns-then-items-others t c = differ_in_length same_literal c.args.items.now c.args.others.now c.if-items-others.true

pub same_fields-returns-then-fields-others : goal.same_fields-returns-then-fields-others
same_fields-returns-then-fields-others t c = differ_in_length same_object_field c.args.fields.now c.args.others.now c.if-fields-others.true
