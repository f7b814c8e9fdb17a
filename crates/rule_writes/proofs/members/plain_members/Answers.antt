use Rattle.std.proofs.Common.{arith}
use Rattle.answer_model.specs.Writing.{plain_member}
use Rattle.field_asking.specs.Asking.{asked_field}
use Rattle.rule_writes.proofs.ListLaws.{given_mapped}
use Rattle.rule_writes.proofs.members.plain_members.Goals as goal

pub fields-preserved : goal.fields-preserved
fields-preserved c =
    given_mapped (plain_member c.args.members.now.members.now) asked_field c.args.fields.now c.fields.field-index c.field-item.result
    _ _ _ (omega arith) c.field-item.is c.fields.invariant c.plain_value.ensures c.in_ok-push_value.ensures
