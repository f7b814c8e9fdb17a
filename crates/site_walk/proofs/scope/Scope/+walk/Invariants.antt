use Rattle.std.proofs.Common.{◌≡◌, map, drop}
use Rattle.std.specs.List.{fold, flat_map}
use Rattle.check_model.specs.Sites.{sites_of_set, sites_of_selection, SitesIn}
use Rattle.site_walk.proofs.scope.Scope.+walk.Given as goal

abbrev pub invariant-visit_set-selections : goal.invariant-visit_set-selections
invariant-visit_set-selections g l =
    fold g.V.Visitor.step l.initial.visitor (sites_of_set l.self.schema.now l.self.document.now l.set l.parent)
    ≡ fold g.V.Visitor.step l.visitor
    (flat_map (λ (s : SitesIn). s l.parent) (map (sites_of_selection l.self.schema.now l.self.document.now) (drop l.selection-index l.selection-items)))
