use Rattle.std.proofs.Common.{sym, ◌∙◌, ◌++◌}
use Rattle.std.specs.Option.{option_copied}
use Rattle.check_model.specs.Judgement.{early_grounds, place_grounds, late_grounds}
use Rattle.gql_check.proofs.GroundLaws.{first_told, next_told}
use Rattle.gql_check.proofs.whole.first_refusal.Goals as goal

pub returns-in-Some : goal.returns-in-Some
returns-in-Some c =
    first_told (early_grounds c.args.document.now (option_copied c.args.name))
    (place_grounds c.args.schema.now c.args.document.now ++ late_grounds c.args.schema.now c.args.document.now)
    c.in-Some.refusal (sym c.in-Some.is ∙ c.in_ok-refusal.ensures)

pub returns-in_ok-schema_refusal-in-None : goal.returns-in_ok-schema_refusal-in-None
returns-in_ok-schema_refusal-in-None c =
    c.in_ok-schema_refusal-in-None.ensures
    ∙ next_told (early_grounds c.args.document.now (option_copied c.args.name))
    (place_grounds c.args.schema.now c.args.document.now ++ late_grounds c.args.schema.now c.args.document.now)
    (sym c.in-None.is ∙ c.in_ok-refusal.ensures)
