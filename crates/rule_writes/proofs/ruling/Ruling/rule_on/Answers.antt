use Rattle.std.proofs.Common.{ℕ, List, ap, ◌∙◌}
use Rattle.std.specs.List.{find}
use Rattle.field_asking.specs.Asking.{executed}
use Rattle.rules_model.specs.declared.optimistic.Optimistic.{Optimistic}
use Rattle.rule_effects.specs.Effects.{is_on, root_type_name}
use Rattle.rule_writes.proofs.ruling.Ruling.rule_on.Goals as goal

pub returns : goal.returns
returns c =
    let name = c.args.asked.now.name.now in
    c.optimistic_on.ensures
    ∙ ap (λ (root : List ℕ). find (λ (rule : Optimistic). is_on root name rule.on) c.as_slice.result.now) c.args.self.now.named
    ∙ ap (find (λ (rule : Optimistic). is_on (root_type_name (executed c.args.self.now.asking.now)) name rule.on)) c.as_slice.ensures
