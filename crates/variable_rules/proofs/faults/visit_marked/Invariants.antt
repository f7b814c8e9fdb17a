use Rattle.std.proofs.Common.{◌≡◌, drop}
use Rattle.std.specs.List.{fold, flat_map, items_where_true}
use Rattle.check_model.specs.Sites.{definition_sites}
use Rattle.variable_rules.specs.Uses.{note_site}
use Rattle.variable_rules.proofs.faults.visit_marked.Given as goal

abbrev pub invariant-definitions : goal.invariant-definitions
invariant-definitions l =
    fold note_site l.initial.uses (flat_map (definition_sites l.scope.schema.now l.scope.document.now) (items_where_true l.marks l.definitions))
    ≡ fold note_site l.uses
    (flat_map (definition_sites l.scope.schema.now l.scope.document.now) (items_where_true (drop l.place l.marks) (drop l.place l.definitions)))
