use Rattle.std.proofs.Common.{ap, ◌∙◌}
use Rattle.execution_model.specs.Asked.{asked_with}
use Rattle.field_asking.specs.Asking.{executed}
use Rattle.partial_reader.proofs.StepLaws.{all_low}
use Rattle.partial_reader.proofs.fields.client_fields.Goals as goal

pub returns-clause-fields : goal.returns-clause-fields
returns-clause-fields c =
    c.in_ok-fields.ensures.fields ∙ ap (λ fronts. asked_with fronts (executed c.args.asking.now) c.args.object c.args.sets.now) c.requires.own

pub returns-clause-low : goal.returns-clause-low
returns-clause-low c = all_low (executed c.args.asking.now) c.args.object c.in_ok-fields.fields.items _ c.in_ok-fields.ensures.fields
