use Rattle.std.proofs.Common.{ap, sym, ◌∙◌}
use Rattle.std.specs.Prelude.{is_some}
use Rattle.std.specs.List.{list_all}
use Rattle.schema_model.specs.Tables.{entry}
use Rattle.execution_model.specs.Offers.{offered}
use Rattle.offered_values.proofs.IntoLaws.{all_map}
use Rattle.offered_values.proofs.offers.are_known.Goals as goal

pub returns : goal.returns
returns c =
    c.all_are_known.ensures
    ∙ ap (list_all (λ m. is_some (entry c.args.declared.now m.0))) c.as_slice.ensures.pairs
    ∙ sym (all_map (λ m. is_some (entry c.args.declared.now m.0)) (λ m. (m.0, offered c.args.inputs.now.defaults.now c.args.inputs.now.schema.now m.1)) c.args.members.now)
