use Rattle.std.proofs.Common.{sym, ◌∙◌}
use Rattle.std.specs.Prelude.{is_some}
use Rattle.std.specs.List.{find}
use Rattle.execution_model.specs.Asked.{Asked}
use Rattle.field_asking.specs.Asking.{asked_field}
use Rattle.rules_model.specs.declared.optimistic.Optimistic.{Optimistic}
use Rattle.rule_effects.specs.Effects.{is_on}
use Rattle.rule_writes.proofs.ListLaws.{any_map}
use Rattle.rule_writes.proofs.optimistic.has_optimistic.Goals as goal

pub returns : goal.returns
returns c =
    c.some_is_declared.ensures
    ∙ sym (any_map (λ (a : Asked). is_some (find (λ (rule : Optimistic). is_on c.args.root.now a.name rule.on) c.args.rules.now)) asked_field c.args.fields.now)
