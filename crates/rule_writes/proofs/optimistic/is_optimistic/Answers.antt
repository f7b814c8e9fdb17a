use Rattle.std.proofs.Common.{ℕ, List, map, ap, ◌∙◌}
use Rattle.std.specs.Prelude.{is_some}
use Rattle.std.specs.List.{find, list_any}
use Rattle.execution_model.specs.Asked.{Asked}
use Rattle.field_asking.specs.declared.field.AskedField.{AskedField}
use Rattle.field_asking.specs.Asking.{executed, asked_field}
use Rattle.rules_model.specs.declared.optimistic.Optimistic.{Optimistic}
use Rattle.rule_effects.specs.Effects.{is_on, root_type_name, has_optimistic}
use Rattle.rule_writes.proofs.optimistic.is_optimistic.Goals as goal

pub returns : goal.returns
returns c =
    let execution = executed c.args.asking.now in
    c.has_optimistic.ensures
    ∙ ap (λ (root : List ℕ). list_any (λ (a : Asked). is_some (find (λ (rule : Optimistic). is_on root a.name rule.on) c.as_slice-rules.result.now)) (map asked_field c.as_slice.result.now)) c.root_type_name.ensures
    ∙ ap (λ (rules : List Optimistic). list_any (λ (a : Asked). is_some (find (λ (rule : Optimistic). is_on (root_type_name execution) a.name rule.on) rules)) (map asked_field c.as_slice.result.now)) c.as_slice-rules.ensures
    ∙ ap (λ (fields : List AskedField). list_any (has_optimistic c.args.rules.now execution) (map asked_field fields)) c.as_slice.ensures.value
    ∙ ap (list_any (has_optimistic c.args.rules.now execution)) c.in_ok-fields.ensures
