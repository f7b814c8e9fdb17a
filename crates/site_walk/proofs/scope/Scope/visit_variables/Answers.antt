use Rattle.std.proofs.Common.{arith}
use Rattle.check_model.specs.Sites.{variable_sites}
use Rattle.site_walk.proofs.WalkLaws.{fold_next}
use Rattle.site_walk.proofs.scope.Scope.visit_variables.Goals as goal

pub variables-preserved : goal.variables-preserved
variables-preserved g c =
    fold_next g.V.Visitor.step (variable_sites c.args.self.now.schema.now)
    c.args.variables.now c.variables.variable-index c.variable-item.result _ _ _
    (omega arith) c.variable-item.is c.variables.invariant c.in_ok-visit_variable.ensures
