use Rattle.std.proofs.Common.{arith, ap, ◌∙◌}
use Rattle.std.specs.List.{fold}
use Rattle.check_model.specs.Usages.{argument_usages, usages_in}
use Rattle.site_walk.proofs.WalkLaws.{fold_next}
use Rattle.variable_rules.specs.Uses.{noted}
use Rattle.variable_rules.proofs.uses.Uses.note_arguments.Goals as goal

pub arguments-preserved : goal.arguments-preserved
arguments-preserved c =
    fold_next noted (argument_usages c.args.schema.now c.args.defined.now)
    c.args.arguments.now c.arguments.argument-index c.argument-item.result _ _ _
    (omega arith) c.argument-item.is c.arguments.invariant
    (c.in_ok-note_literal.ensures
    ∙ ap (λ at. fold noted c.arguments.self (usages_in c.args.schema.now c.argument-item.result.value at)) c.wanted_at-at.ensures)
