use Rattle.std.proofs.Common.{ap, sym, ◌∙◌, add-one}
use Rattle.execution_model.specs.Defaults.{values_by}
use Rattle.gql_coercion.specs.Settled.{rounds}
use Rattle.gql_coercion.proofs.defaults.default_values.Goals as goal

pub rounds-init : goal.rounds-init
rounds-init c = c.new-values.ensures

pub rounds-preserved : goal.rounds-preserved
rounds-preserved c =
    c.in_ok-next.ensures
    ∙ ap (λ values. values_by values c.args.schema.now) c.rounds.invariant
    ∙ ap (λ n. rounds n c.args.schema.now) (sym (add-one c.rounds._round))
