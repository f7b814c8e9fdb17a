use Rattle.std.proofs.Common.{arith}
use Rattle.check_model.specs.Sites.{SitesIn, sites_of_selection}
use Rattle.site_walk.proofs.WalkLaws.{fold_next_of}
use Rattle.site_walk.proofs.scope.Scope.+walk.Goals as goal

pub visit_set-selections-preserved : goal.visit_set-selections-preserved
visit_set-selections-preserved g t c =
    fold_next_of g.V.Visitor.step (λ (s : SitesIn). s c.args.parent) (sites_of_selection c.args.self.now.schema.now c.args.self.now.document.now)
    c.as_slice-selection-items.result.now c.selections.selection-index c.selection-item.result _ _ _
    (omega arith) c.selection-item.is c.selections.invariant c.in_ok-visit_selection.ensures
