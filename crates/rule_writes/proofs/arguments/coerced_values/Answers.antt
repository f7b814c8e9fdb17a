use Rattle.std.proofs.Common.{ap, ◌∙◌}
use Rattle.std.proofs.lemmas.Result.{IfOk-weaker}
use Rattle.rule_writes.specs.Views.{pairs_of}
use Rattle.rule_writes.specs.Defaults.{with_defaults}
use Rattle.rule_writes.proofs.DefaultLaws.{with_defaults_is}
use Rattle.rule_writes.proofs.arguments.coerced_values.Goals as goal

pub returns : goal.returns
returns c =
    let defaults = c.args.inputs.now.defaults.now in
    let schema = c.args.inputs.now.schema.now in
    let values = pairs_of c.args.values.now in
    IfOk-weaker c.put_arguments.result _ _
    (λ members is.
    is
    ∙ ap (λ ds. with_defaults defaults schema c.in_ok-defaults.defaults.members.now ds values) c.as_slice.ensures.pairs
    ∙ ap (λ ms. with_defaults defaults schema ms c.args.defined.now values) (c.in_ok-defaults.ensures ∙ c.in_ok-members.ensures)
    ∙ with_defaults_is defaults schema c.args.defined.now values c.as_slice.ensures.names)
    c.put_arguments.ensures
