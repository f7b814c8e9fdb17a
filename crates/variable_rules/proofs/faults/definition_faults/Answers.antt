use Rattle.std.proofs.Common.{◌∙◌}
use Rattle.variable_rules.proofs.FaultLaws.{no_operation}
use Rattle.variable_rules.proofs.faults.definition_faults.Goals as goal

pub returns-in_default : goal.returns-in_default
returns-in_default c =
    c.none.ensures ∙ no_operation c.args.scope.now.schema.now c.args.scope.now.document.now c.args.place c.args.definition.now c.in_default.not-Operation
