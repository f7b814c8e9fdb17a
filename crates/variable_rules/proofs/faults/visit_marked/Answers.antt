use Rattle.std.proofs.Common.{arith, ap, ◌∙◌, cond, []}
use Rattle.std.specs.List.{fold}
use Rattle.check_model.specs.Sites.{definition_sites}
use Rattle.variable_rules.specs.Uses.{note_site}
use Rattle.variable_rules.proofs.MarkLaws.{marked_next, marked_all}
use Rattle.variable_rules.proofs.faults.visit_marked.Goals as goal

pub definitions-preserved : goal.definitions-preserved
definitions-preserved c =
    marked_next note_site (definition_sites c.args.scope.now.schema.now c.args.scope.now.document.now)
    c.args.marks.now c.args.definitions.now c.definitions.place c.index-definitions-place.result _ _ _
    (omega arith) c.index-definitions-place.is c.definitions.invariant
    (c.in_ok-visit_if.ensures
    ∙ ap (λ b. fold note_site c.definitions.uses
    (cond b (definition_sites c.args.scope.now.schema.now c.args.scope.now.document.now c.index-definitions-place.result) [])) c.is_marked.ensures)

pub returns : goal.returns
returns c =
    marked_all note_site (definition_sites c.args.scope.now.schema.now c.args.scope.now.document.now)
    c.args.marks.now c.args.definitions.now c.definitions.place _ _ (omega arith) c.definitions.invariant
