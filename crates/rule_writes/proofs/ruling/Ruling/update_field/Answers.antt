use Rattle.std.proofs.Common.{◌++◌, ap, sym, ◌∙◌, append-nil}
use Rattle.field_asking.specs.Asking.{executed, asked_field}
use Rattle.rule_effects.specs.Effects.{root_type_name, answered_members}
use Rattle.rule_writes.proofs.RuleLaws.{none_on, none_where_not}
use Rattle.rule_writes.proofs.ruling.Ruling.update_field.Goals as goal

pub returns-then-is_untouched : goal.returns-then-is_untouched
returns-then-is_untouched c =
    let execution = executed c.args.self.now.asking.now in
    let asked = asked_field c.args.asked.now in
    sym (append-nil c.args.out)
    ∙ ap (λ ws. c.args.out ++ ws)
    (sym (none_on (record { execution = execution; scope = record { arguments = asked.arguments; members = answered_members execution c.args.answer.now.value.now asked } })
    (root_type_name execution) asked.name c.args.self.now.rules.now.updaters
    (none_where_not _ (sym c.is_untouched.ensures ∙ c.if-is_untouched.true))))
