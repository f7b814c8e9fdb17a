use Rattle.std.proofs.Common.{◌≡◌, drop}
use Rattle.std.specs.List.{fold, flat_map}
use Rattle.check_model.specs.Sites.{sites, definition_sites}
use Rattle.site_walk.proofs.scope.Scope.visit.Given as goal

abbrev pub invariant-definitions : goal.invariant-definitions
invariant-definitions g l =
    fold g.V.Visitor.step l.initial.visitor (sites l.self.schema.now l.self.document.now)
    ≡ fold g.V.Visitor.step l.visitor
    (flat_map (definition_sites l.self.schema.now l.self.document.now) (drop l.definition-index l.definition-items))
