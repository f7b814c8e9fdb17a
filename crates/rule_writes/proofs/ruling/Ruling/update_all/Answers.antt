use Rattle.std.proofs.Common.{arith}
use Rattle.field_asking.specs.Asking.{executed, asked_field}
use Rattle.rule_effects.specs.Effects.{field_updates}
use Rattle.rule_writes.proofs.ListLaws.{flat_next}
use Rattle.rule_writes.proofs.ruling.Ruling.update_all.Goals as goal

pub fields-preserved : goal.fields-preserved
fields-preserved c =
    flat_next (field_updates c.args.self.now.rules.now (executed c.args.self.now.asking.now) c.args.answer.now.value.now) asked_field c.args.fields.now
    c.fields.asked-index c.asked-item.result c.fields.out _ (omega arith) c.asked-item.is c.fields.invariant c.in_ok-out.ensures
