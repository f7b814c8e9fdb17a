use Rattle.std.proofs.Common.{sym, ◌∙◌}
use Rattle.check_model.specs.Judgement.{place_grounds, late_grounds}
use Rattle.gql_check.proofs.GroundLaws.{first_told, next_told}
use Rattle.gql_check.proofs.whole.scope_refusal.Goals as goal

pub returns-in-Some : goal.returns-in-Some
returns-in-Some c =
    first_told (place_grounds c.args.scope.now.schema.now c.args.scope.now.document.now)
    (late_grounds c.args.scope.now.schema.now c.args.scope.now.document.now)
    c.in-Some.refusal (sym c.in-Some.is ∙ c.in_ok-refusal.ensures)

pub returns-in_ok-late_refusal-in-None : goal.returns-in_ok-late_refusal-in-None
returns-in_ok-late_refusal-in-None c =
    c.in_ok-late_refusal-in-None.ensures
    ∙ next_told (place_grounds c.args.scope.now.schema.now c.args.scope.now.document.now)
    (late_grounds c.args.scope.now.schema.now c.args.scope.now.document.now)
    (sym c.in-None.is ∙ c.in_ok-refusal.ensures)
