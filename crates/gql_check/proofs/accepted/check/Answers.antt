use Rattle.std.proofs.Common.{ap, sym, ◌∙◌}
use Rattle.std.specs.Option.{option_copied}
use Rattle.gql_model.specs.declared.document.Document.{Document}
use Rattle.check_model.specs.Judgement.{refusal_of}
use Rattle.checked_operation.specs.Choice.{chosen_place}
use Rattle.gql_check.proofs.accepted.check.Goals as goal

pub returns-in_ok-chosen-in-None-clause-accepted : goal.returns-in_ok-chosen-in-None-clause-accepted
returns-in_ok-chosen-in-None-clause-accepted c = record {
  unrefused =
      ap (λ (d : Document). refusal_of c.args.schema.now d (option_copied c.args.name)) c.in_ok-chosen-in-None.ensures.document
      ∙ sym c.in_ok-refusal.ensures
      ∙ c.in-None.is;
  chosen =
      ap (λ (d : Document). chosen_place d (option_copied c.args.name)) c.in_ok-chosen-in-None.ensures.document
      ∙ c.in_ok-chosen-in-None.ensures.place;
  whole = c.in_ok-chosen-in-None.ensures.whole;
}
