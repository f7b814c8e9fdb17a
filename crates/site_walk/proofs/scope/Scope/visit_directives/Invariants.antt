use Rattle.std.proofs.Common.{◌≡◌, map, drop}
use Rattle.std.specs.List.{fold}
use Rattle.check_model.specs.Sites.{directive_site}
use Rattle.site_walk.proofs.scope.Scope.visit_directives.Given as goal

abbrev pub invariant-directives : goal.invariant-directives
invariant-directives g l =
    fold g.V.Visitor.step l.initial.visitor (map (directive_site l.self.schema.now) l.directives)
    ≡ fold g.V.Visitor.step l.visitor (map (directive_site l.self.schema.now) (drop l.directive-index l.directives))
