use Rattle.std.proofs.Common.{ap, ◌∙◌, ◌++◌}
use Rattle.gql_model.specs.declared.document.Document.{Document}
use Rattle.schema_model.specs.declared.schema.Schema.{Schema}
use Rattle.check_model.specs.Judgement.{first_ground, place_grounds, late_grounds}
use Rattle.gql_check.proofs.whole.schema_refusal.Goals as goal

pub returns : goal.returns
returns c =
    c.in_ok-refusal.ensures
    ∙ ap (λ (s : Schema). first_ground (place_grounds s c.in_ok-scope.scope.document.now ++ late_grounds s c.in_ok-scope.scope.document.now)) c.in_ok-scope.ensures.schema_is
    ∙ ap (λ (d : Document). first_ground (place_grounds c.args.schema.now d ++ late_grounds c.args.schema.now d)) c.in_ok-scope.ensures.document_is
