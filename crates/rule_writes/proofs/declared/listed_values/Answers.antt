use Rattle.std.proofs.Common.{[], ap, arith}
use Rattle.std.specs.Option.{option_copied, option_map}
use Rattle.rule_effects.specs.Effects.{listed_value}
use Rattle.rule_writes.proofs.ListLaws.{given_behind}
use Rattle.rule_writes.proofs.declared.listed_values.Goals as goal

pub fields-preserved : goal.fields-preserved
fields-preserved c =
    given_behind (listed_value c.args.arguments.now) c.as_slice-listed-items.result.now c.fields.listed-index c.listed-item.result [] _ _
    (option_map (λ v. (c.listed-item.result.0, v)) (option_copied c.value.result)) (omega arith) c.listed-item.is c.fields.invariant
    (ap (option_map (λ v. (c.listed-item.result.0, v))) c.value.ensures) c.in_ok-push_value.ensures
