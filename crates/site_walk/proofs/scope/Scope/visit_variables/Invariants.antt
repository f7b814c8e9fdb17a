use Rattle.std.proofs.Common.{◌≡◌, drop}
use Rattle.std.specs.List.{fold, flat_map}
use Rattle.check_model.specs.Sites.{variable_sites}
use Rattle.site_walk.proofs.scope.Scope.visit_variables.Given as goal

abbrev pub invariant-variables : goal.invariant-variables
invariant-variables g l =
    fold g.V.Visitor.step l.initial.visitor (flat_map (variable_sites l.self.schema.now) l.variables)
    ≡ fold g.V.Visitor.step l.visitor (flat_map (variable_sites l.self.schema.now) (drop l.variable-index l.variables))
