use Rattle.std.proofs.Common.{arith}
use Rattle.check_model.specs.Sites.{definition_sites}
use Rattle.site_walk.proofs.WalkLaws.{fold_next}
use Rattle.site_walk.proofs.scope.Scope.visit.Goals as goal

pub definitions-preserved : goal.definitions-preserved
definitions-preserved g c =
    fold_next g.V.Visitor.step (definition_sites c.args.self.now.schema.now c.args.self.now.document.now)
    c.as_slice-definition-items.result.now c.definitions.definition-index c.definition-item.result _ _ _
    (omega arith) c.definition-item.is c.definitions.invariant c.in_ok-visit_definition.ensures
