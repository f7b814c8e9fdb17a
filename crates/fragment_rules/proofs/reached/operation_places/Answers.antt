use Rattle.std.proofs.Common.{◌++◌, List, ℕ, arith, ap, ◌∙◌}
use Rattle.std.specs.Option.{option_to_list}
use Rattle.check_model.specs.DocumentRules.{operation_place}
use Rattle.check_model.proofs.ListLaws.{next_numbered}
use Rattle.fragment_rules.proofs.reached.operation_places.Goals as goal

pub definitions-preserved : goal.definitions-preserved
definitions-preserved c =
    c.in_ok-push_operation.ensures
    ∙ ap (λ (ks : List ℕ). ks ++ option_to_list (operation_place (c.definitions.place, c.index-definitions-place.result))) c.definitions.invariant
    ∙ next_numbered operation_place c.args.definitions.now c.definitions.place c.index-definitions-place.result (omega arith) c.index-definitions-place.is
