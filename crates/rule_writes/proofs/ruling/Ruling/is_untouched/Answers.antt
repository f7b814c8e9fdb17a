use Rattle.std.proofs.Common.{ℕ, List, ap, ◌∙◌, not}
use Rattle.std.specs.List.{list_any}
use Rattle.field_asking.specs.Asking.{executed}
use Rattle.rules_model.specs.declared.updater.Updater.{Updater}
use Rattle.rule_effects.specs.Effects.{is_on, root_type_name}
use Rattle.rule_writes.proofs.ruling.Ruling.is_untouched.Goals as goal

pub returns : goal.returns
returns c =
    let name = c.args.asked.now.name.now in
    ap not
    (c.is_updated.ensures
    ∙ ap (λ (root : List ℕ). list_any (λ (u : Updater). is_on root name u.on) c.as_slice.result.now) c.args.self.now.named
    ∙ ap (list_any (λ (u : Updater). is_on (root_type_name (executed c.args.self.now.asking.now)) name u.on)) c.as_slice.ensures)
