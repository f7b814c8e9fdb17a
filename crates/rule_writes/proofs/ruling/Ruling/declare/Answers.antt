use Rattle.std.proofs.Common.{◌++◌, ap, ◌∙◌, append_assoc}
use Rattle.std.proofs.lemmas.Result.{IfOk-weaker}
use Rattle.execution_model.specs.Values.{Pairs}
use Rattle.field_asking.specs.Asking.{executed, asked_field}
use Rattle.rule_effects.specs.Effects.{updates, own_writes, root_type_name, optimistic_members}
use Rattle.rule_writes.specs.Views.{pairs_of}
use Rattle.rule_writes.proofs.ruling.Ruling.declare.Goals as goal

pub returns : goal.returns
returns c =
    let rules = c.args.self.now.rules.now in
    let execution = executed c.args.self.now.asking.now in
    let asked = asked_field c.args.asked.now in
    let rule = c.args.rule.now in
    let first = pairs_of c.as_slice.result.now in
    let second = pairs_of c.as_slice-2.result.now in
    let members = optimistic_members rule asked.arguments in
    IfOk-weaker c.update.result _ _
    (λ writes is.
    is
    ∙ ap (λ ws. ws ++ updates rules (root_type_name execution) execution asked second) c.in_ok-out.ensures
    ∙ append_assoc c.args.out (own_writes rules.keys rule first) (updates rules (root_type_name execution) execution asked second)
    ∙ ap (λ (ms : Pairs). c.args.out ++ (own_writes rules.keys rule first ++ updates rules (root_type_name execution) execution asked ms))
    (ap pairs_of c.as_slice-2.ensures.value ∙ c.in_ok-members.ensures)
    ∙ ap (λ (ms : Pairs). c.args.out ++ (own_writes rules.keys rule ms ++ updates rules (root_type_name execution) execution asked members))
    (ap pairs_of c.as_slice.ensures.value ∙ c.in_ok-members.ensures))
    c.update.ensures
