use Rattle.std.proofs.Common.{◌≡◌, [], map, drop}
use Rattle.execution_model.specs.Inputs.{members_into}
use Rattle.rule_writes.specs.Views.{pairs_of}
use Rattle.rule_writes.specs.Defaults.{member_with_default}
use Rattle.rule_writes.proofs.arguments.put_arguments.Given as goal

abbrev pub invariant-defined : goal.invariant-defined
invariant-defined l =
    members_into [] (map (member_with_default l.inputs.defaults.now l.inputs.schema.now l.defaults.members.now (pairs_of l.values)) l.defined)
    ≡ members_into l.object.members (map (member_with_default l.inputs.defaults.now l.inputs.schema.now l.defaults.members.now (pairs_of l.values)) (drop l.argument-index l.defined))
